-- Not for readers: n counts by parts, as the code has them, which say nothing that n times `count` does not say (`counted-at-once`); and what
-- is asked of four digits that are to be put together.
use Rattle.std.specs.Prelude.{ℕ, ◌<◌, Bool, true, cond, ◌==◌}
use Rattle.channel.specs.declared.Latch.{Latch}
use Rattle.channel.specs.Shared.{followed}
use Rattle.count.specs.declared.digits.Digits.{Digits}

-- the output latch and `ticked` after a number of counts, the last of which leaves e in the counting element; as they were where no count is made
abbrev pub followed_by : ℕ → Latch → ℕ → Latch
followed_by number l e = cond (number == 0) l (followed l e)

abbrev pub ticked_by : ℕ → Bool → Bool
ticked_by number ticked = cond (number == 0) ticked true

-- each digit has four bits of the number, so it may be 10 to 15 too
pub record FourBits (d : Digits) : Type 0 where
  pub thousands-bits : d.thousands < 16
  pub hundreds-bits : d.hundreds < 16
  pub tens-bits : d.tens < 16
  pub ones-bits : d.ones < 16
