-- What the four fields are is fixed by the record that has them. Assumes nothing.
use mathlib.Core.Path.{◌≡◌}
use Rattle.channel.specs.declared.Channel.{Channel}
use Rattle.quiet.specs.Inner.{Moved, with_skipped}

pub moved_apart : (c : Channel) (m n : Moved) → with_skipped c m ≡ with_skipped c n → m ≡ n
moved_apart c m n e =
    λ i. record {
      cycles_in_state = (e i).counter.cycles_in_state;
      counting_element = (e i).counter.counting_element;
      ticked = (e i).counter.ticked;
      output_latch = (e i).latch.output_latch;
    }
