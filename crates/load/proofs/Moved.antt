-- Where a load cycle moves the value the counting element is that value. Assumes nothing.
use mathlib.Core.Path.{◌≡◌, ap}
use Rattle.channel.specs.declared.Channel.{Channel}
use Rattle.channel.specs.declared.ChannelState.TheVariants.{WaitingForLoadCycle}
use Rattle.channel.specs.Shared.{change_channel_state, put_element}
use Rattle.load.specs.Cycle.{load_value, moved, load_cycle}

pub moved-element : (c : Channel) → c.counter.channel_state ≡ WaitingForLoadCycle → (load_cycle c).counter.counting_element ≡ load_value c
unfolding change_channel_state put_element load_cycle
moved-element c waits =
    let moved : load_cycle c ≡ moved c = simp waits in
    ap (λ (d : Channel). d.counter.counting_element) moved
