-- Document 01, "Time and reset": the fresh channel, and the one that a reset leaves.
use Rattle.std.specs.Prelude.{Bool, true, false}
use Rattle.channel.specs.declared.Channel.{Channel}
use Rattle.channel.specs.declared.ChannelMode.TheVariants.{InterruptOnTerminalCount}
use Rattle.channel.specs.declared.RwMode.TheVariants.{LsbMsb}
use Rattle.channel.specs.declared.ChannelState.TheVariants.{WaitingForReload}
use Rattle.channel.specs.declared.Load.{Load}
use Rattle.channel.specs.declared.LoadState.TheVariants.{WaitingForLsb}
use Rattle.channel.specs.declared.LoadType.TheVariants.{InitialLoad}
use Rattle.channel.specs.declared.ReadState.TheVariants.{NoRead}

-- "first load, waiting for the low byte", "numbers 0, flags false"
abbrev pub fresh_load : Load
fresh_load = record { count_register = 0; reload_value = 0; load_state = WaitingForLsb; load_type = InitialLoad; armed = false }

-- "mode 0, low-then-high access, `WaitingForReload`, gate high, output low, load mask 0xFFFF, numbers 0, flags false, first load,
-- waiting for the low byte, no read", with the gate at a level of its own
unfoldable pub fresh_at : Bool → Channel
fresh_at level =
    record {
      control = record { mode = InterruptOnTerminalCount; rw_mode = LsbMsb; bcd_mode = false };
      reloading = record { output_on_reload = false; reload_on_trigger = false; load_mask = 0xFFFF };
      load = fresh_load;
      counter = record { channel_state = WaitingForReload; cycles_in_state = 0; counting_element = 0; ticked = false };
      latch = record { output_latch = 0; count_is_latched = false; read_state = NoRead };
      pins = record { gate = level; output = false };
      status = record { status_latch = 0; null_count = false };
      dirty = false;
    }

-- "gate high"
abbrev pub fresh : Channel
fresh = fresh_at true

-- "`reset` restores three fresh channels but keeps model and gate"
abbrev pub reset : Channel → Channel
reset c = fresh_at c.pins.gate
