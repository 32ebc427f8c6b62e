-- The sheets' counter and the bytes written to it: the first count and later ones. Lines C1, W1, M0 to M5, M0-8254 and M4-8254 of docs/SHEETS.md.
use Rattle.std.specs.Prelude.{ℕ, Bool, true, false, cond, [], ◌∷◌, eqb, get_or}
use Rattle.sheet.specs.ControlByte.{Access, low_byte, high_byte, low_then_high}
use Rattle.sheet.specs.Loading.{count_of, first_byte_stops}
use Rattle.sheet.specs.Ticking.{Chip, chip8253, chip8254}
use Rattle.sheet.specs.Counter.{Fixed, left_open, fixed_at, Phase, awaits_count, awaits_trigger, loading, counting, lost, Counter}

-- the first count since the mode set
abbrev pub first_only : Phase → Phase → Phase
first_only next awaits_count = next
first_only next awaits_trigger = awaits_trigger
first_only next loading = loading
first_only next (counting n j) = counting n j
first_only next lost = lost

-- Where a complete count leads. M0, M4: "The tick after a completed load loads", of every count; M4-8254 says it of one completed while counting, and for the 8253 that is
-- decided (docs/DECISIONS.md 15). So it does with the first count of modes 2 and 3 (docs/TICK.md, T2). M1, M5: the first one waits for a trigger. M1, M2, M3, M5: "A count written meanwhile" waits, for a trigger or for the next load
abbrev pub on_count : ℕ → Phase → Phase
on_count mode p =
    get_or
    (loading ∷ first_only awaits_trigger p ∷ first_only loading p ∷ first_only loading p ∷ loading ∷ first_only awaits_trigger p ∷ []) mode lost

-- M0: high "until a new mode or count"
abbrev pub output_on_count : ℕ → Fixed Bool → Fixed Bool
output_on_count mode output = cond (eqb mode 0) (fixed_at false) output

abbrev pub complete : Counter → ℕ → Counter
complete k w =
    record {
      access = k.access;
      mode = k.mode;
      bcd = k.bcd;
      first = left_open;
      count = fixed_at w;
      gate = k.gate;
      phase = on_count k.mode k.phase;
      output = output_on_count k.mode k.output;
      value = k.value;
    }

-- an output that is low, or of which the sheet does not say when it falls
abbrev pub lowered : Fixed Bool → Fixed Bool
lowered left_open = left_open
lowered (fixed_at true) = left_open
lowered (fixed_at false) = fixed_at false

-- M0-8254: "The first byte of a two-byte count sets the output low at once"; the 8253's sheet does not say whether at that byte or the next
abbrev pub output_on_first : Chip → Fixed Bool → Fixed Bool
output_on_first chip8253 output = lowered output
output_on_first chip8254 output = fixed_at false

-- M0: "the first byte stops counting"; the other modes go on (M4-8254: "its first byte has no effect")
abbrev pub begin : Chip → Counter → ℕ → Counter
begin chip k byte =
    record {
      access = k.access;
      mode = k.mode;
      bcd = k.bcd;
      first = fixed_at byte;
      count = k.count;
      gate = k.gate;
      phase = cond (first_byte_stops k.mode) awaits_count k.phase;
      output = cond (first_byte_stops k.mode) (output_on_first chip k.output) k.output;
      value = k.value;
    }

-- W1: "With two-byte access the count is complete when the second byte has come."
abbrev pub write_word : Chip → Fixed ℕ → Counter → ℕ → Counter
write_word chip left_open k byte = begin chip k byte
write_word chip (fixed_at low) k byte = complete k (count_of low byte)

-- C1: low byte, high byte, or low then high
abbrev pub write_in : Access → Chip → Counter → ℕ → Counter
write_in low_byte chip k byte = complete k (count_of byte 0)
write_in high_byte chip k byte = complete k (count_of 0 byte)
write_in low_then_high chip k byte = write_word chip k.first k byte

abbrev pub write : Chip → Counter → ℕ → Counter
write chip k byte = write_in k.access chip k byte
