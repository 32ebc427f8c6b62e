-- What reads give: line R1 of docs/SHEETS.md. R2, that a latch freezes the value read until it is read out, needs no definition of its own:
-- the bytes are then those of the value at the latch (agreement, proofs/Latching.antt).
use Rattle.std.specs.Prelude.{ℕ, ◌/◌, ◌%◌, List, [], ◌∷◌}
use Rattle.sheet.specs.ControlByte.{Access, low_byte, high_byte, low_then_high}

-- R1: "Reads follow the access programmed: one byte, or low then high.": the bytes that read a value out, in their order
abbrev pub read_out : Access → ℕ → List ℕ
read_out low_byte v = v % 256 ∷ []
read_out high_byte v = v / 256 ∷ []
read_out low_then_high v = v % 256 ∷ v / 256 ∷ []
