-- A load cycle by its parts: the counter's group, the latch, the null-count mark and dirty. The other groups are as they were. Assumes nothing.
use mathlib.Core.Path.{◌≡◌, refl}
use mathlib.Core.Bool.{true, false, cond}
use Rattle.channel.specs.declared.Channel.{Channel}
use Rattle.channel.specs.declared.ChannelState.{ChannelState}
use Rattle.channel.specs.declared.ChannelState.TheVariants.{WaitingForReload, WaitingForGate, DeferLoadCycle, WaitingForLoadCycle, WaitingForLoadTrigger, Counting}
use Rattle.channel.specs.Record.{with_counter, with_latch, with_dirty}
use Rattle.channel.specs.Shared.{waits_for_cycle, followed, change_channel_state, put_element, with_null_count}
use Rattle.load.specs.Cycle.{load_value, cycle_in, load_cycle}
use Rattle.load.specs.Inner.{counter_after}

abbrev cycled : ChannelState → Channel → Channel
cycled s c =
    with_null_count
    (with_dirty
    (with_latch (with_counter c (counter_after s c.counter (load_value c)))
    (cond (waits_for_cycle s) (followed c.latch (load_value c)) c.latch))
    (cond (waits_for_cycle s) true c.dirty))
    (cond (waits_for_cycle s) false c.status.null_count)

cycle-in-parts : (s : ChannelState) (c : Channel) → c.counter.channel_state ≡ s → cycle_in s c ≡ cycled s c
unfolding change_channel_state put_element
cycle-in-parts WaitingForReload c e = refl
cycle-in-parts WaitingForGate c e = refl
cycle-in-parts DeferLoadCycle c e = simp e
cycle-in-parts WaitingForLoadCycle c e = simp e
cycle-in-parts WaitingForLoadTrigger c e = refl
cycle-in-parts (Counting f) c e = refl

pub cycle_by_parts : (c : Channel) → load_cycle c ≡ cycled c.counter.channel_state c
unfolding load_cycle
cycle_by_parts c = cycle-in-parts c.counter.channel_state c refl
