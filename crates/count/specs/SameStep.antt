-- The digits' way and document 01's: the borrow that walks over the number's digits, and what is taken from it (1, 0x7, 0x67 or 0x667).
use Rattle.std.specs.Prelude.{◌≡◌, ℕ, ◌<◌}
use Rattle.count.specs.Step.{decimal_step}
use Rattle.count.specs.Borrow.{digits_step}

-- they come to the same from each of the 65,536 starts, digits above 9 too
abbrev pub SameStep : Type 0
SameStep = (e : ℕ) → e < 65536 → digits_step e ≡ decimal_step e
