-- docs/ENCODING.md, "A channel's record": which bytes are readable, and the channel that they spell.
use Rattle.std.specs.Prelude.{ℕ, zero, suc, Bool, true, false, cond, List, [], ◌∷◌, ltb, length, get_or, Result, Ok, Err}
use Rattle.numbers.specs.Little.{word_at}
use Rattle.numbers.specs.Number.{number_at}
use Rattle.channel.specs.declared.Channel.{Channel}
use Rattle.channel.specs.declared.ControlWord.{ControlWord}
use Rattle.channel.specs.declared.Reloading.{Reloading}
use Rattle.channel.specs.declared.Load.{Load}
use Rattle.channel.specs.declared.Counter.{Counter}
use Rattle.channel.specs.declared.Latch.{Latch}
use Rattle.channel.specs.declared.Pins.{Pins}
use Rattle.channel.specs.declared.Status.{Status}
use Rattle.channel.specs.Modes.{mode_numbered}
use Rattle.encoding.specs.declared.loading.LoadError.{LoadError}
use Rattle.encoding.specs.declared.loading.LoadError.TheVariants.{Short, Unreadable}
use Rattle.encoding.specs.Codes.{flag_coded, access_coded, load_state_coded, load_type_coded, read_state_coded, state_coded}
use Rattle.encoding.specs.Stored.{channel_size}

-- the column "limit" of the table; "of a number's bytes every value is readable"
abbrev pub limits : List ℕ
limits =
    5 ∷ 2 ∷ 1 ∷ 1 ∷ 1 ∷ 255 ∷ 255 ∷ 255 ∷ 255 ∷ 255 ∷ 255 ∷ 1 ∷ 1 ∷ 1 ∷ 6 ∷ 255 ∷ 255 ∷ 255 ∷ 255 ∷ 255 ∷ 255 ∷ 1 ∷ 255 ∷ 255 ∷ 1 ∷ 1
    ∷ 1 ∷ 1 ∷ 1 ∷ 255 ∷ 1 ∷ []

-- the first n bytes are at most their limits
unfoldable pub readable_to : ℕ → List ℕ → Bool
readable_to zero bytes = true
readable_to (suc k) bytes = cond (ltb (get_or limits k 0) (get_or bytes k 0)) false (readable_to k bytes)

-- "A record is readable when all its 31 bytes are."
abbrev pub readable : List ℕ → Bool
readable = readable_to channel_size

abbrev pub flag_at : List ℕ → ℕ → Bool
flag_at bytes k = flag_coded (get_or bytes k 0)

abbrev pub control_spelled : List ℕ → ControlWord
control_spelled bytes =
    record { mode = mode_numbered (get_or bytes 0 0); rw_mode = access_coded (get_or bytes 1 0); bcd_mode = flag_at bytes 2 }

abbrev pub reloading_spelled : List ℕ → Reloading
reloading_spelled bytes =
    record { output_on_reload = flag_at bytes 3; reload_on_trigger = flag_at bytes 4; load_mask = word_at bytes 5 }

abbrev pub load_spelled : List ℕ → Load
load_spelled bytes =
    record {
      count_register = word_at bytes 7;
      reload_value = word_at bytes 9;
      load_state = load_state_coded (get_or bytes 11 0);
      load_type = load_type_coded (get_or bytes 12 0);
      armed = flag_at bytes 13;
    }

abbrev pub counter_spelled : List ℕ → Counter
counter_spelled bytes =
    record {
      channel_state = state_coded (get_or bytes 14 0);
      cycles_in_state = number_at bytes 15;
      counting_element = word_at bytes 19;
      ticked = flag_at bytes 21;
    }

abbrev pub latch_spelled : List ℕ → Latch
latch_spelled bytes =
    record {
      output_latch = word_at bytes 22;
      count_is_latched = flag_at bytes 24;
      read_state = read_state_coded (get_or bytes 25 0);
    }

abbrev pub pins_spelled : List ℕ → Pins
pins_spelled bytes = record { gate = flag_at bytes 26; output = flag_at bytes 27 }

abbrev pub status_spelled : List ℕ → Status
status_spelled bytes = record { status_latch = get_or bytes 29 0; null_count = flag_at bytes 30 }

unfoldable pub channel_spelled : List ℕ → Channel
channel_spelled bytes =
    record {
      control = control_spelled bytes;
      reloading = reloading_spelled bytes;
      load = load_spelled bytes;
      counter = counter_spelled bytes;
      latch = latch_spelled bytes;
      pins = pins_spelled bytes;
      status = status_spelled bytes;
      dirty = flag_at bytes 28;
    }

-- "101 fewer bytes of record .. than it has", "102 the record .. is not readable"
unfoldable pub load_channel : List ℕ → Result Channel LoadError
load_channel bytes =
    cond (ltb (length bytes) channel_size) (Err Short) (cond (readable bytes) (Ok (channel_spelled bytes)) (Err Unreadable))
