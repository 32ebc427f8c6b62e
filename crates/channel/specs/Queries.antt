-- Document 01's queries of one channel: `get_output_state`, `get_channel_count`, `does_channel_retrigger` and `is_dirty`.
use Rattle.std.specs.Prelude.{Bool, true, false}
use Rattle.channel.specs.declared.Channel.{Channel}
use Rattle.channel.specs.declared.ChannelMode.{ChannelMode}
use Rattle.channel.specs.declared.queries.ChannelCount.{ChannelCount}
use Rattle.channel.specs.declared.queries.DirtyAnswer.{DirtyAnswer}
use Rattle.channel.specs.Record.{with_dirty}
use Rattle.channel.specs.Modes.{by_mode}
use Rattle.channel.specs.Shared.{is_counting}

-- the level at the output pin
abbrev pub get_output_state : Channel → Bool
get_output_state c = c.pins.output

-- the Rust's text: the count register, the counting element, and whether it is counting
abbrev pub get_channel_count : Channel → ChannelCount
get_channel_count c =
    record {
      count_register = c.load.count_register;
      counting_element = c.counter.counting_element;
      counting = is_counting c.counter.channel_state;
    }

-- "`does_channel_retrigger` (modes 2 and 3)"
abbrev pub does_retrigger : ChannelMode → Bool
does_retrigger = by_mode false false true true false false

abbrev pub does_channel_retrigger : Channel → Bool
does_channel_retrigger c = does_retrigger c.control.mode

-- "`is_dirty`, which clears the mark"; the Rust's text answers dirty, counting and ticked
abbrev pub is_dirty : Channel → DirtyAnswer
is_dirty c =
    record {
      dirty = c.dirty;
      counting = is_counting c.counter.channel_state;
      ticked = c.counter.ticked;
      channel = with_dirty c false;
    }
