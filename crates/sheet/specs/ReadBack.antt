-- The 8254's read-back command and its status byte: lines RB1, RB2 and RB4 of docs/SHEETS.md. RB3 is in NullCount.antt.
use Rattle.std.specs.Prelude.{ℕ, ◌+◌, ◌*◌, ◌<◌, Bool, ◌&&◌, List, ◌∷◌, ◌≡◌, eqb}
use Rattle.numbers.specs.Flags.{flag_number}
use Rattle.sheet.specs.ControlByte.{Access, low_byte, high_byte, low_then_high, bit, two_bits, select}

-- RB1: "bits 7-6 are 1 1 .. bit 0 must be 0"
abbrev pub is_read_back : ℕ → Bool
is_read_back byte = eqb (select byte) 3 && eqb (bit 0 byte) 0

-- RB1: "bit 5 clear latches counts, bit 4 clear latches status"
abbrev pub latches_counts : ℕ → Bool
latches_counts byte = eqb (bit 5 byte) 0

abbrev pub latches_status : ℕ → Bool
latches_status byte = eqb (bit 4 byte) 0

-- RB1: "bits 3, 2, 1 name counters 2, 1, 0"
abbrev pub names_counter : ℕ → ℕ → Bool
names_counter byte n = eqb (bit (n + 1) byte) 1

-- what a latch of the chip has, if it has something
pub data Latched : Type 0 where
  empty : Latched
  latched : ℕ → Latched

-- RB1: "what is already latched stays as it was"
abbrev pub latch_once : Latched → ℕ → Latched
latch_once empty now = latched now
latch_once (latched before) now = latched before

-- C1: "1 low byte, 2 high byte, 3 low then high"
abbrev pub access_code : Access → ℕ
access_code low_byte = 1
access_code high_byte = 2
access_code low_then_high = 3

-- RB2: "bit 7 output, bit 6 null count, bits 5-4 access, bits 3-1 mode as programmed, bit 0 BCD"
pub record IsStatus (byte : ℕ) (output null : Bool) (access : Access) (mode : ℕ) (bcd : Bool) : Type 0 where
  pub eight-bits : byte < 256
  pub bit-7 : bit 7 byte ≡ flag_number output
  pub bit-6 : bit 6 byte ≡ flag_number null
  pub bits-5-4 : two_bits (bit 5 byte) (bit 4 byte) ≡ access_code access
  pub bits-3-1 : 4 * bit 3 byte + two_bits (bit 2 byte) (bit 1 byte) ≡ mode
  pub bit-0 : bit 0 byte ≡ flag_number bcd

-- RB4: "the first read gives the status and the next one or two the count"
abbrev pub status_first : Latched → List ℕ → List ℕ
status_first empty count = count
status_first (latched status) count = status ∷ count
