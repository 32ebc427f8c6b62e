-- Not for readers: a load cycle by parts, as the code has it. It says nothing that `load_cycle` does not say (`cycle_by_parts`).
use Rattle.std.specs.Prelude.{ℕ}
use Rattle.channel.specs.declared.Counter.{Counter}
use Rattle.channel.specs.declared.ChannelState.{ChannelState}
use Rattle.channel.specs.declared.ChannelState.TheVariants.{WaitingForReload, WaitingForGate, DeferLoadCycle, WaitingForLoadCycle, WaitingForLoadTrigger, Counting}
use Rattle.channel.specs.declared.ReloadFlag.TheVariants.{Normal}

-- the counter's group in a state just entered
abbrev pub newly_in : ChannelState → ℕ → Counter → Counter
newly_in s element k =
    record { channel_state = s; cycles_in_state = 0; counting_element = element; ticked = k.ticked }

-- what the cycle leaves of the counter's group, where a load would move value
abbrev pub counter_after : ChannelState → Counter → ℕ → Counter
counter_after WaitingForReload k value = k
counter_after WaitingForGate k value = k
counter_after DeferLoadCycle k value = newly_in WaitingForLoadCycle k.counting_element k
counter_after WaitingForLoadCycle k value = newly_in (Counting Normal) value k
counter_after WaitingForLoadTrigger k value = k
counter_after (Counting f) k value = k
