-- How many checkpoints some numbers of operations have, where they stand, and how long a trace is at most: document 02's "each 256 operations", "rounded down". Assumes nothing.
use mathlib.Core.Path.{◌≡◌, refl}
use Rattle.trace.specs.Sizes.{checkpoints_of, longest_trace}
use Rattle.trace.specs.Section.{checkpoint_place, section_end}
use Rattle.checkpoint.specs.Boards.{operations_to}

pub record Numbers : Type 0 where
  pub none-at-255 : checkpoints_of 255 ≡ 0
  pub one-at-256 : checkpoints_of 256 ≡ 1
  pub one-at-511 : checkpoints_of 511 ≡ 1
  pub two-at-512 : checkpoints_of 512 ≡ 2
  pub sixteen-at-4096 : checkpoints_of 4096 ≡ 16
  pub first-after : operations_to 0 ≡ 256
  pub last-after : operations_to 15 ≡ 4096
  pub first-place : checkpoint_place 256 0 ≡ 1556
  pub one-ends : section_end 256 ≡ 1667
  pub none-ends : section_end 0 ≡ 20
  pub longest : longest_trace ≡ 26372

pub numbers : Numbers
numbers =
    record {
      none-at-255 = refl;
      one-at-256 = refl;
      one-at-511 = refl;
      two-at-512 = refl;
      sixteen-at-4096 = refl;
      first-after = refl;
      last-after = refl;
      first-place = refl;
      one-ends = refl;
      none-ends = refl;
      longest = refl;
    }
