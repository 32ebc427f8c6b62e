-- The control byte, bit by bit: lines C1, C2 and C3 of docs/SHEETS.md.
use Rattle.std.specs.Prelude.{ℕ, ◌+◌, ◌*◌, ◌/◌, ◌%◌, ◌^◌, Bool, cond, eqb}

-- C1: "access (0 latch, 1 low byte, 2 high byte, 3 low then high)"
pub data Access : Type 0 where
  low_byte : Access
  high_byte : Access
  low_then_high : Access

-- what a control byte asks of a counter: its latch, or its access, mode and BCD. C1: "Select 3 is no counter: illegal on the 8253,
-- read-back on the 8254"
pub data Request : Type 0 where
  no_counter : Request
  latch_counter : ℕ → Request
  program : ℕ → Access → ℕ → Bool → Request

abbrev pub bit : ℕ → ℕ → ℕ
bit k byte = byte / 2 ^ k % 2

-- the number that two bits write
abbrev pub two_bits : ℕ → ℕ → ℕ
two_bits high low = 2 * high + low

-- C1: "bits 7-6 select the counter, bits 5-4 access"
abbrev pub select : ℕ → ℕ
select byte = two_bits (bit 7 byte) (bit 6 byte)

abbrev pub access : ℕ → ℕ
access byte = two_bits (bit 5 byte) (bit 4 byte)

abbrev pub access_named : ℕ → Access
access_named n = cond (eqb n 1) low_byte (cond (eqb n 2) high_byte low_then_high)

-- C1: "bits 3-1 mode"; C2: "Mode bits 110 and 111 are modes 2 and 3: bit 3 does not matter there."
abbrev pub mode_named : ℕ → ℕ → ℕ → ℕ
mode_named bit3 bit2 bit1 = cond (eqb bit2 1) (two_bits 1 bit1) (4 * bit3 + bit1)

-- C1: "bit 0 BCD"; C3: "The latch command looks at bits 7-4 only."
abbrev pub request_of : ℕ → Request
request_of byte =
    cond (eqb (select byte) 3) no_counter
    (cond (eqb (access byte) 0) (latch_counter (select byte))
    (program (select byte) (access_named (access byte)) (mode_named (bit 3 byte) (bit 2 byte) (bit 1 byte)) (eqb (bit 0 byte) 1)))
