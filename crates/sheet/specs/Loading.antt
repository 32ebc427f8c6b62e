-- Counts written to a counter: of C1 the two-byte access, and lines W1, M0, M0-8254 and M4-8254 of docs/SHEETS.md.
use Rattle.std.specs.Prelude.{ℕ, ◌+◌, ◌*◌, Bool, eqb}
use Rattle.sheet.specs.ControlByte.{Access, low_byte, high_byte, low_then_high}

-- C1: low byte, high byte, or low then high; W1: "With two-byte access the count is complete when the second byte has come."
abbrev pub bytes_of : Access → ℕ
bytes_of low_byte = 1
bytes_of high_byte = 1
bytes_of low_then_high = 2

-- C1, "low then high": the count that the two bytes write
abbrev pub count_of : ℕ → ℕ → ℕ
count_of low high = low + 256 * high

-- M0: "Of a two-byte count the first byte stops counting"; M0-8254: it "sets the output low at once". Of mode 4 M4-8254 says "its first
-- byte has no effect", and of the others M1, M2, M3 and M5 say that a count written
-- meanwhile waits for a trigger or a load
abbrev pub first_byte_stops : ℕ → Bool
first_byte_stops mode = eqb mode 0
