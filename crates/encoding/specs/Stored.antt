-- docs/ENCODING.md, "A channel's record": the bytes of a channel, group by group in the order of the table.
use Rattle.std.specs.Prelude.{ℕ, List, [], ◌∷◌, ◌++◌}
use Rattle.numbers.specs.Flags.{flag_number}
use Rattle.numbers.specs.Little.{two_bytes, four_bytes}
use Rattle.channel.specs.declared.Channel.{Channel}
use Rattle.channel.specs.declared.ControlWord.{ControlWord}
use Rattle.channel.specs.declared.Reloading.{Reloading}
use Rattle.channel.specs.declared.Load.{Load}
use Rattle.channel.specs.declared.Counter.{Counter}
use Rattle.channel.specs.declared.Latch.{Latch}
use Rattle.channel.specs.declared.Pins.{Pins}
use Rattle.channel.specs.declared.Status.{Status}
use Rattle.channel.specs.Modes.{mode_number}
use Rattle.encoding.specs.Codes.{access_byte, load_state_byte, load_type_byte, read_state_byte, state_byte}

-- "A channel's record: 31 bytes"
abbrev pub channel_size : ℕ
channel_size = 31

-- places 0 to 2
abbrev pub control_bytes : ControlWord → List ℕ
control_bytes w = mode_number w.mode ∷ access_byte w.rw_mode ∷ flag_number w.bcd_mode ∷ []

-- places 3 to 6
abbrev pub reloading_bytes : Reloading → List ℕ
reloading_bytes rule = flag_number rule.output_on_reload ∷ flag_number rule.reload_on_trigger ∷ two_bytes rule.load_mask

-- places 7 to 13
abbrev pub load_bytes : Load → List ℕ
load_bytes l =
    two_bytes l.count_register ++ two_bytes l.reload_value
    ++ load_state_byte l.load_state ∷ load_type_byte l.load_type ∷ flag_number l.armed ∷ []

-- places 14 to 21
abbrev pub counter_bytes : Counter → List ℕ
counter_bytes k =
    state_byte k.channel_state ∷ four_bytes k.cycles_in_state ++ two_bytes k.counting_element ++ flag_number k.ticked ∷ []

-- places 22 to 25
abbrev pub latch_bytes : Latch → List ℕ
latch_bytes l = two_bytes l.output_latch ++ flag_number l.count_is_latched ∷ read_state_byte l.read_state ∷ []

-- places 26 and 27
abbrev pub pins_bytes : Pins → List ℕ
pins_bytes p = flag_number p.gate ∷ flag_number p.output ∷ []

-- places 29 and 30; "0 for none" of the status latch is as the record has it
abbrev pub status_bytes : Status → List ℕ
status_bytes s = s.status_latch ∷ flag_number s.null_count ∷ []

-- place 28 is dirty
unfoldable pub channel_bytes : Channel → List ℕ
channel_bytes c =
    control_bytes c.control ++ reloading_bytes c.reloading ++ load_bytes c.load ++ counter_bytes c.counter ++ latch_bytes c.latch
    ++ pins_bytes c.pins ++ flag_number c.dirty ∷ status_bytes c.status
