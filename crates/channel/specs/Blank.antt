-- What stands past the end of a list of channels, as the language has it: 0, false and the first variant throughout. No place of a board lies there.
use Rattle.std.specs.Prelude.{false}
use Rattle.channel.specs.declared.Channel.{Channel}
use Rattle.channel.specs.declared.ChannelMode.TheVariants.{InterruptOnTerminalCount}
use Rattle.channel.specs.declared.RwMode.TheVariants.{Lsb}
use Rattle.channel.specs.declared.ChannelState.TheVariants.{WaitingForReload}
use Rattle.channel.specs.declared.LoadState.TheVariants.{WaitingForLsb}
use Rattle.channel.specs.declared.LoadType.TheVariants.{InitialLoad}
use Rattle.channel.specs.declared.ReadState.TheVariants.{NoRead}

abbrev pub blank : Channel
blank =
    record {
      control = record { mode = InterruptOnTerminalCount; rw_mode = Lsb; bcd_mode = false };
      reloading = record { output_on_reload = false; reload_on_trigger = false; load_mask = 0 };
      load = record { count_register = 0; reload_value = 0; load_state = WaitingForLsb; load_type = InitialLoad; armed = false };
      counter = record { channel_state = WaitingForReload; cycles_in_state = 0; counting_element = 0; ticked = false };
      latch = record { output_latch = 0; count_is_latched = false; read_state = NoRead };
      pins = record { gate = false; output = false };
      status = record { status_latch = 0; null_count = false };
      dirty = false;
    }
