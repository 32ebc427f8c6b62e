-- Document 01, "Control byte": the mode set.
use Rattle.std.specs.Prelude.{ℕ, Bool, true, false}
use Rattle.channel.specs.declared.Channel.{Channel}
use Rattle.channel.specs.declared.ChannelMode.{ChannelMode}
use Rattle.channel.specs.declared.ChannelState.TheVariants.{WaitingForReload}
use Rattle.channel.specs.declared.ControlWord.{ControlWord}
use Rattle.channel.specs.declared.LoadState.TheVariants.{WaitingForLsb}
use Rattle.channel.specs.declared.LoadType.TheVariants.{InitialLoad}
use Rattle.channel.specs.declared.PitType.{PitType}
use Rattle.channel.specs.declared.PitType.TheVariants.{Model8253, Model8254}
use Rattle.channel.specs.declared.ReadState.TheVariants.{NoRead}
use Rattle.channel.specs.declared.Reloading.{Reloading}
use Rattle.channel.specs.Modes.{by_mode}

-- "Output becomes low in mode 0, high in 1 to 5."
abbrev pub output_after : ChannelMode → Bool
output_after = by_mode false true true true true true

-- "`output_on_reload` becomes false, false, true, true in modes 0 to 3; ... Modes 4 and 5 set neither and keep what an earlier mode left."
abbrev pub output_on_reload : Bool → ChannelMode → Bool
output_on_reload was = by_mode false false true true was was

-- "`reload_on_trigger` false, true, false, false", and as above in modes 4 and 5
abbrev pub reload_on_trigger : Bool → ChannelMode → Bool
reload_on_trigger was = by_mode false true false false was was

-- "Only mode 3 sets the load mask: 0xFFFF on the 8253, 0xFFFE on the 8254."
abbrev pub square_mask : PitType → ℕ
square_mask Model8253 = 0xFFFF
square_mask Model8254 = 0xFFFE

abbrev pub load_mask : PitType → ℕ → ChannelMode → ℕ
load_mask model was = by_mode was was was (square_mask model) was was

abbrev pub reloading_of : Reloading → ChannelMode → PitType → Reloading
reloading_of r m model =
    record {
      output_on_reload = output_on_reload r.output_on_reload m;
      reload_on_trigger = reload_on_trigger r.reload_on_trigger m;
      load_mask = load_mask model r.load_mask m;
    }

-- "Mode set makes the counting element 0, clears latched, armed and any half read or half load, sets dirty, the first-load flag,
-- state `WaitingForReload` and cycles in state 0. ... Output latch, count register, reload value, gate and `ticked` stay."
-- L5: the null-count mark is "set by a mode set", and "Mode set and reset drop a held status"
unfoldable pub set_mode : Channel → ControlWord → PitType → Channel
set_mode c word model =
    record {
      control = word;
      reloading = reloading_of c.reloading word.mode model;
      load =
          record {
            count_register = c.load.count_register;
            reload_value = c.load.reload_value;
            load_state = WaitingForLsb;
            load_type = InitialLoad;
            armed = false;
          };
      counter = record { channel_state = WaitingForReload; cycles_in_state = 0; counting_element = 0; ticked = c.counter.ticked };
      latch = record { output_latch = c.latch.output_latch; count_is_latched = false; read_state = NoRead };
      pins = record { gate = c.pins.gate; output = output_after word.mode };
      status = record { status_latch = 0; null_count = true };
      dirty = true;
    }
