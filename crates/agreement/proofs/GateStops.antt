-- G0, G2, G3, G4: a gate that is low, or goes low, "stops counting": no number of ticks changes the count, the latch or `ticked`. Assumes nothing.
use Prim.Native.Nat.{ℕ}
use mathlib.Core.Bool.{Bool, true, false, false≢true, not, cond}
use mathlib.Core.Path.{◌≡◌, refl, sym, ap, ◌∙◌}
use borrow.Author.Tests.{not-true}
use Rattle.numbers.specs.Times.{times}
use Rattle.channel.specs.declared.Channel.{Channel}
use Rattle.channel.specs.declared.ChannelMode.{ChannelMode}
use Rattle.channel.specs.declared.ChannelState.{ChannelState}
use Rattle.channel.specs.declared.ChannelState.TheVariants.{WaitingForReload, WaitingForGate, DeferLoadCycle, WaitingForLoadCycle, WaitingForLoadTrigger, Counting}
use Rattle.channel.specs.declared.ControlWord.{ControlWord}
use Rattle.channel.specs.declared.PitType.{PitType}
use Rattle.channel.specs.declared.ReloadFlag.TheVariants.{Normal, ReloadNextCycle}
use Rattle.channel.specs.Kept.{Kept}
use Rattle.channel.specs.Modes.{mode_number}
use Rattle.channel.specs.Shared.{waits_for_reload, change_channel_state, change_output_state}
use Rattle.channel.proofs.Keeps.{kept_then}
use Rattle.channel.proofs.Modes.{every-mode}
use Rattle.channel.proofs.Pick.{pick-holds}
use Rattle.gate.specs.Gate.{stops_on_fall, high_on_fall, stopping, edge, set_gate}
use Rattle.gate.proofs.Keeps.{gate-keeps}
use Rattle.sheet.specs.Gate.{fall_effect}
use Rattle.tick.specs.declared.due.Kind.TheVariants.{Idle, Load}
use Rattle.tick.specs.Due.{triggered, runs, due_in, due}
use Rattle.tick.specs.Taken.{taken_by, taken}
use Rattle.tick.specs.Tick.{tick}
use Rattle.agreement.specs.Gating.{underway, low}
use Rattle.agreement.proofs.Gate.{level-kept}
use Rattle.agreement.proofs.Idling.{ticks-stand}

-- a channel that has a count underway and does not run is idle
pub idle-in : (s : ChannelState) (c : Channel) → underway s ≡ true → runs c ≡ false → due_in s c ≡ Idle
idle-in WaitingForReload c going still = refl
idle-in WaitingForGate c going still = simp still
idle-in DeferLoadCycle c going still = absurd (false≢true going)
idle-in WaitingForLoadCycle c going still = absurd (false≢true going)
idle-in WaitingForLoadTrigger c going still = absurd (false≢true going)
idle-in (Counting Normal) c going still = simp still
idle-in (Counting ReloadNextCycle) c going still = simp still

-- a gate that goes low leaves a count underway: it enters no state but the one that holds it
going-stopped : (c : Channel) → underway c.counter.channel_state ≡ true → underway (stopping c).counter.channel_state ≡ true
unfolding change_channel_state
going-stopped c going =
    pick-holds (λ (d : Channel). underway d.counter.channel_state ≡ true) (stops_on_fall c.control.mode)
    (change_channel_state c WaitingForGate)
    c
    refl
    going

going-edge : (was : Bool) (c : Channel) → underway c.counter.channel_state ≡ true → underway (edge was false c).counter.channel_state ≡ true
unfolding change_output_state
going-edge false c going = going
going-edge true c going =
    pick-holds (λ (d : Channel). underway d.counter.channel_state ≡ true) (high_on_fall (stopping c).control.mode)
    (change_output_state (stopping c) true)
    (stopping c)
    (going-stopped c going)
    (going-stopped c going)

going-low : (c : Channel) → underway c.counter.channel_state ≡ true → underway (set_gate c false).counter.channel_state ≡ true
unfolding set_gate
going-low c going =
    pick-holds (λ (d : Channel). underway d.counter.channel_state ≡ true) (waits_for_reload c.counter.channel_state)
    c
    (edge c.pins.gate false c)
    going
    (going-edge c.pins.gate c going)

-- the level stops the modes that no trigger starts
pub stops-level : (m : ChannelMode) → (fall_effect (mode_number m)).stops ≡ not (triggered m)
stops-level = every-mode (λ (m : ChannelMode). (fall_effect (mode_number m)).stops ≡ not (triggered m)) refl refl refl refl refl refl

of-waiting : (b : Bool) (c : Channel) → taken_by (cond b Idle Load) c ≡ 0
of-waiting true c = refl
of-waiting false c = refl

-- so a channel in such a mode does not run while the gate is low ..
still : (c : Channel) → (low c).stops ≡ true → c.pins.gate ≡ false → runs c ≡ false
still c stops level = simp (not-true (triggered c.control.mode) (sym (stops-level c.control.mode) ∙ stops), level)

-- .. and its count takes nothing, in whatever state
taken-in : (s : ChannelState) (c : Channel) → runs c ≡ false → taken_by (due_in s c) c ≡ 0
taken-in WaitingForReload c none = refl
taken-in WaitingForGate c none = simp none
taken-in DeferLoadCycle c none = refl
taken-in WaitingForLoadCycle c none = refl
taken-in WaitingForLoadTrigger c none = of-waiting (triggered c.control.mode) c
taken-in (Counting Normal) c none = simp none
taken-in (Counting ReloadNextCycle) c none = simp none

pub low-takes-nothing : (c : Channel) → (low c).stops ≡ true → c.pins.gate ≡ false → taken c ≡ 0
unfolding taken due
low-takes-nothing c stops level = taken-in c.counter.channel_state c (still c stops level)

-- a gate that goes low, or is low, leaves a count underway idle
pub idle-low : (c : Channel) → (low c).stops ≡ true → underway c.counter.channel_state ≡ true → due (set_gate c false) ≡ Idle
unfolding due
idle-low c stops going =
    let same : (set_gate c false).control.mode ≡ c.control.mode = ap (λ (w : ControlWord). w.mode) (gate-keeps c false).control-kept in
    idle-in (set_gate c false).counter.channel_state (set_gate c false) (going-low c going)
    (still (set_gate c false) (rw same stops) (level-kept c false))

pub low-stops : (model : PitType) (c : Channel) → (low c).stops ≡ true → underway c.counter.channel_state ≡ true
    → (j : ℕ) → Kept c (times j (tick model) (set_gate c false))
low-stops model c stops going j = kept_then (gate-keeps c false) (ticks-stand model (set_gate c false) (idle-low c stops going) j)
