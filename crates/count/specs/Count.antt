-- Document 01, "Counting, latch and reading": one count of a channel.
use Rattle.std.specs.Prelude.{ℕ, true}
use Rattle.channel.specs.declared.Channel.{Channel}
use Rattle.channel.specs.Record.{with_counter}
use Rattle.channel.specs.Shared.{put_element}
use Rattle.count.specs.Step.{step_in}

-- the counting element after one count
abbrev pub next_element : Channel → ℕ
next_element c = step_in c.control.bcd_mode c.counter.counting_element

-- "`ticked` becomes true"
abbrev pub with_ticked : Channel → Channel
with_ticked c =
    with_counter c
    (record {
      channel_state = c.counter.channel_state;
      cycles_in_state = c.counter.cycles_in_state;
      counting_element = c.counter.counting_element;
      ticked = true;
    })

-- "A count takes one from the counting element"; "The output latch follows unless latched; `ticked` becomes true."
unfoldable pub count : Channel → Channel
count c = with_ticked (put_element c (next_element c))
