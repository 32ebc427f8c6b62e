-- Document 02, L3: "A channel read shall also say low or high half (the command port: neither), and whether the channel was latched just before." Both are told
-- by the record that the read is given, so the read that ends a latch still says that the byte was held.
use Rattle.std.specs.Prelude.{ℕ, ◌/◌, ◌%◌, true, false, cond, ◌≡◌, Option, Some, None}
use Rattle.channel.specs.declared.Channel.{Channel}
use Rattle.channel.specs.Record.{with_latch}
use Rattle.latch.specs.declared.reading.Half.{Half}
use Rattle.latch.specs.declared.reading.Half.TheVariants.{Low, High}
use Rattle.latch.specs.declared.label.Label.{Label}
use Rattle.latch.specs.Status.{no_status}
use Rattle.latch.specs.Reading.{next_half}

-- "low or high half", that which the next read of the count gives, and "whether the channel was latched just before"
abbrev pub count_label : Channel → Label
count_label c = record { half = Some (next_half c); held = c.latch.count_is_latched }

-- L5: of a held status "L3's words for it are `none held`", also where no count is held
abbrev pub status_label : Label
status_label = record { half = None; held = true }

-- what the next read says of its byte
unfoldable pub label_of : Channel → Label
label_of c = cond (no_status c) (count_label c) status_label

-- what a half says of a byte that is read of a value: it is that half of the value; neither half says nothing
abbrev pub IsHalf : Option Half → ℕ → ℕ → Type 0
IsHalf (Some Low) x v = x ≡ v % 256
IsHalf (Some High) x v = x ≡ v / 256
IsHalf None x v = Unit

-- a record with another value in its output latch
abbrev pub with_value : Channel → ℕ → Channel
with_value c v =
    with_latch c (record { output_latch = v; count_is_latched = c.latch.count_is_latched; read_state = c.latch.read_state })

-- "(the command port: neither)", "and the command port prints `read 00 none live`"
abbrev pub command_label : Label
command_label = record { half = None; held = false }

-- docs/ENCODING.md: "its half: 0 neither, 1 low, 2 high"
abbrev pub half_number : Option Half → ℕ
half_number None = 0
half_number (Some Low) = 1
half_number (Some High) = 2
