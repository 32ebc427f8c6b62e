-- Not for readers: a level at the gate by parts, as the code has it. It says nothing that `set_gate` does not say (`gate_by_parts`).
use Rattle.std.specs.Prelude.{Bool, true, false}
use Rattle.channel.specs.declared.ChannelMode.{ChannelMode}
use Rattle.channel.specs.declared.ChannelState.{ChannelState}
use Rattle.channel.specs.declared.ChannelState.TheVariants.{WaitingForGate, WaitingForLoadCycle}
use Rattle.gate.specs.Gate.{loads_on_rise, stops_on_fall, high_on_fall}

-- whether the edge from a level to a level enters a state, in a mode, and which; and whether it makes the output high
abbrev pub enters : ChannelMode → Bool → Bool → Bool
enters m false false = false
enters m false true = loads_on_rise m
enters m true false = stops_on_fall m
enters m true true = false

abbrev pub entered_at : Bool → ChannelState
entered_at true = WaitingForLoadCycle
entered_at false = WaitingForGate

abbrev pub raises : ChannelMode → Bool → Bool → Bool
raises m false level = false
raises m true false = high_on_fall m
raises m true true = false
