-- The output pin after a mode set: line O1 of docs/SHEETS.md.
use Rattle.std.specs.Prelude.{ℕ, Bool, true, false, cond, eqb}

-- O1: "After a mode set the output is low in mode 0 and high in modes 1 to 5"; true is high
abbrev pub output_after_mode_set : ℕ → Bool
output_after_mode_set mode = cond (eqb mode 0) false true
