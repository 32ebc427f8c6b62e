-- A flag as a number: 0 no, 1 yes.
use Rattle.std.specs.Prelude.{ℕ, Bool, cond}

abbrev pub flag_number : Bool → ℕ
flag_number flag = cond flag 1 0
