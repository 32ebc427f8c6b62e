-- A gate level keeps the count and the latch, whatever edge it makes. Assumes nothing.
use mathlib.Core.Path.{refl}
use mathlib.Core.Bool.{Bool, true, false}
use Rattle.channel.specs.declared.Channel.{Channel}
use Rattle.channel.specs.declared.ChannelState.TheVariants.{WaitingForGate, WaitingForLoadCycle}
use Rattle.channel.specs.Kept.{Kept}
use Rattle.channel.proofs.Keeps.{kept_same, kept_then, kept-pick, kept-state, kept-output}
use Rattle.channel.specs.Shared.{waits_for_reload}
use Rattle.gate.specs.Gate.{loads_on_rise, stops_on_fall, high_on_fall, stopping, raising, edge, after_edge, with_gate, set_gate}

stopping-keeps : (c : Channel) → Kept c (stopping c)
stopping-keeps c = kept-pick (stops_on_fall c.control.mode) (kept-state c WaitingForGate) (kept_same c)

raising-keeps : (c : Channel) → Kept c (raising c)
raising-keeps c = kept-pick (high_on_fall c.control.mode) (kept-output c true) (kept_same c)

edge-keeps : (was level : Bool) (c : Channel) → Kept c (edge was level c)
edge-keeps false false c = kept_same c
edge-keeps false true c = kept-pick (loads_on_rise c.control.mode) (kept-state c WaitingForLoadCycle) (kept_same c)
edge-keeps true false c = kept_then (stopping-keeps c) (raising-keeps (stopping c))
edge-keeps true true c = kept_same c

level-keeps : (c : Channel) (level : Bool) → Kept c (with_gate c level)
level-keeps c level = record { control-kept = refl; latch-kept = refl; element-kept = refl; status-latch-kept = refl; ticked-kept = refl }

pub gate-keeps : (c : Channel) (level : Bool) → Kept c (set_gate c level)
unfolding set_gate
gate-keeps c level =
    kept_then
    (kept-pick (waits_for_reload c.counter.channel_state) (kept_same c) (edge-keeps c.pins.gate level c))
    (level-keeps (after_edge c level) level)
