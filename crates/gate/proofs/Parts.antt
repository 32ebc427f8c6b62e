-- What an edge of the gate does to the counter's group and to the output, and that it leaves the other groups alone. Assumes nothing.
use mathlib.Core.Path.{◌≡◌, refl, ap}
use mathlib.Core.Bool.{Bool, true, false, cond}
use Rattle.channel.specs.declared.Channel.{Channel}
use Rattle.channel.specs.declared.Counter.{Counter}
use Rattle.channel.specs.declared.ChannelState.{ChannelState}
use Rattle.channel.specs.declared.ChannelState.TheVariants.{WaitingForGate, WaitingForLoadCycle}
use Rattle.channel.specs.Record.{with_counter, with_pins}
use Rattle.channel.specs.Shared.{waits_for_reload, is_counting, change_channel_state, change_output_state}
use Rattle.channel.proofs.Pick.{of-pick, pick_same}
use Rattle.gate.specs.Gate.{loads_on_rise, stops_on_fall, high_on_fall, stopping, edge, after_edge, with_gate, set_gate}
use Rattle.gate.specs.Inner.{enters, entered_at, raises}

abbrev newly_in : ChannelState → Counter → Counter
newly_in s k =
    record { channel_state = s; cycles_in_state = 0; counting_element = k.counting_element; ticked = k.ticked }

pub edge_counter : (was level : Bool) (c : Channel)
    → (edge was level c).counter ≡ cond (enters c.control.mode was level) (newly_in (entered_at level) c.counter) c.counter
unfolding change_channel_state change_output_state
edge_counter false false c = refl
edge_counter false true c = simp (of-pick (λ (d : Channel). d.counter))
edge_counter true false c = simp (of-pick (λ (d : Channel). d.counter), pick_same)
edge_counter true true c = refl

pub edge_output : (was level : Bool) (c : Channel)
    → (edge was level c).pins.output ≡ cond (raises c.control.mode was level) true c.pins.output
unfolding change_channel_state change_output_state
edge_output false false c = refl
edge_output false true c = simp (of-pick (λ (d : Channel). d.pins.output), pick_same)
edge_output true false c = simp (of-pick (λ (d : Channel). d.pins.output), of-pick (λ (d : Channel). d.control), pick_same)
edge_output true true c = refl

-- a channel with the counter's group and the output of another
abbrev with_parts : Channel → Channel → Channel
with_parts c d = with_pins (with_counter c d.counter) (record { gate = c.pins.gate; output = d.pins.output })

-- the states that an edge enters are not `Counting`, so that no edge sets dirty
entered-rest : (b : Bool) (c : Channel) (s : ChannelState) → is_counting s ≡ false
    → cond b (change_channel_state c s) c ≡ with_parts c (cond b (change_channel_state c s) c)
unfolding change_channel_state
entered-rest true c s waits = simp (waits, pick_same)
entered-rest false c s waits = refl

raised-rest : (b : Bool) (c d : Channel) → d ≡ with_parts c d
    → cond b (change_output_state d true) d ≡ with_parts c (cond b (change_output_state d true) d)
unfolding change_output_state
raised-rest true c d rest = ap (λ (x : Channel). change_output_state x true) rest
raised-rest false c d rest = rest

edge-rest : (was level : Bool) (c : Channel) → edge was level c ≡ with_parts c (edge was level c)
edge-rest false false c = refl
edge-rest false true c = entered-rest (loads_on_rise c.control.mode) c WaitingForLoadCycle refl
edge-rest true false c =
    raised-rest (high_on_fall (stopping c).control.mode) c (stopping c) (entered-rest (stops_on_fall c.control.mode) c WaitingForGate refl)
edge-rest true true c = refl

after-rest : (b was level : Bool) (c : Channel) → cond b c (edge was level c) ≡ with_parts c (cond b c (edge was level c))
after-rest true was level c = refl
after-rest false was level c = edge-rest was level c

pub gate_by_parts : (c : Channel) (level : Bool)
    → set_gate c level
    ≡ with_pins (with_counter c (after_edge c level).counter) (record { gate = level; output = (after_edge c level).pins.output })
unfolding set_gate
gate_by_parts c level =
    ap (λ (d : Channel). with_gate d level) (after-rest (waits_for_reload c.counter.channel_state) c.pins.gate level c)
