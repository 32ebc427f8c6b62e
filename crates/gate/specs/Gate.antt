-- Document 01, "Loads and gates": a level at the gate pin.
use Rattle.std.specs.Prelude.{Bool, true, false, cond}
use Rattle.channel.specs.declared.Channel.{Channel}
use Rattle.channel.specs.declared.ChannelMode.{ChannelMode}
use Rattle.channel.specs.declared.ChannelState.TheVariants.{WaitingForGate, WaitingForLoadCycle}
use Rattle.channel.specs.Record.{with_pins}
use Rattle.channel.specs.Modes.{by_mode}
use Rattle.channel.specs.Shared.{waits_for_reload, change_channel_state, change_output_state}

-- "Rising, modes 1, 2, 3, 5: `WaitingForLoadCycle`."
abbrev pub loads_on_rise : ChannelMode → Bool
loads_on_rise = by_mode false true true true false true

abbrev pub rising : Channel → Channel
rising c = cond (loads_on_rise c.control.mode) (change_channel_state c WaitingForLoadCycle) c

-- "Falling, modes 2, 3, 4: `WaitingForGate`, and in 2 and 3 output high."
abbrev pub stops_on_fall : ChannelMode → Bool
stops_on_fall = by_mode false false true true true false

abbrev pub high_on_fall : ChannelMode → Bool
high_on_fall = by_mode false false true true false false

abbrev pub stopping : Channel → Channel
stopping c = cond (stops_on_fall c.control.mode) (change_channel_state c WaitingForGate) c

abbrev pub raising : Channel → Channel
raising c = cond (high_on_fall c.control.mode) (change_output_state c true) c

abbrev pub falling : Channel → Channel
falling c = raising (stopping c)

-- the edge from a level to a level, if there is one
abbrev pub edge : Bool → Bool → Channel → Channel
edge false false c = c
edge false true c = rising c
edge true false c = falling c
edge true true c = c

-- "Gate edges act unless the state is `WaitingForReload`."
abbrev pub after_edge : Channel → Bool → Channel
after_edge c level = cond (waits_for_reload c.counter.channel_state) c (edge c.pins.gate level c)

abbrev pub with_gate : Channel → Bool → Channel
with_gate c level = with_pins c (record { gate = level; output = c.pins.output })

-- "The gate level is always stored."
unfoldable pub set_gate : Channel → Bool → Channel
set_gate c level = with_gate (after_edge c level) level
