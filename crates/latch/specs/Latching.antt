-- Document 01, "Counting, latch and reading": the latch command.
use Rattle.std.specs.Prelude.{true}
use Rattle.channel.specs.declared.Channel.{Channel}
use Rattle.channel.specs.Record.{with_latch, with_dirty}

-- "Latching copies the counting element to the output latch, even if already latched, and sets dirty. It does not reset a half-read
-- word."
unfoldable pub latch_count : Channel → Channel
latch_count c =
    with_dirty
    (with_latch c
    (record {
      output_latch = c.counter.counting_element;
      count_is_latched = true;
      read_state = c.latch.read_state;
    }))
    true
