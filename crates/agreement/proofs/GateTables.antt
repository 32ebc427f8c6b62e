-- What the sheets' gate tables say of each other and of document 01's, mode by mode, and of the states that an edge finds. Assumes nothing.
use Prim.Native.Nat.{ℕ}
use mathlib.Core.Bool.{Bool, true, false, true≢false, false≢true, cond}
use mathlib.Core.Logic.{⊎_elim}
use mathlib.Core.Path.{◌≡◌, refl, sym, ap, ◌∙◌}
use lib.Dec.{eqb}
use Rattle.channel.specs.declared.Channel.{Channel}
use Rattle.channel.specs.declared.ChannelMode.{ChannelMode}
use Rattle.channel.specs.declared.ChannelMode.TheVariants.{InterruptOnTerminalCount}
use Rattle.channel.specs.declared.ChannelState.{ChannelState}
use Rattle.channel.specs.declared.ChannelState.TheVariants.{WaitingForReload, WaitingForGate, DeferLoadCycle, WaitingForLoadCycle, WaitingForLoadTrigger, Counting}
use Rattle.channel.specs.declared.PitType.{PitType}
use Rattle.channel.specs.Modes.{mode_number}
use Rattle.channel.specs.Queries.{does_retrigger}
use Rattle.channel.specs.Shared.{waits_for_reload, change_channel_state, change_output_state}
use Rattle.channel.proofs.Modes.{every-mode}
use Rattle.channel.proofs.Pick.{of-pick, pick_same}
use Rattle.gate.specs.Gate as gate
use Rattle.tick.specs.Due.{triggered}
use Rattle.sheet.specs.Gate.{fall_effect, rise_effect}
use Rattle.sheet.specs.Counter.{Fixed, fixed_at}
use Rattle.agreement.specs.Gating.{underway, goes_on}
use Rattle.agreement.specs.Watching.{IsFixed}
use Rattle.agreement.proofs.CountsDown.{counts_down}
use Rattle.agreement.proofs.TrackTick.{load-come}
use Rattle.agreement.proofs.Tracking.{Core, TriggerAwaited, down, rate, square, paused, Standing, WaitsIn}

-- what the tables say of each other
pub still-raises : (m : ChannelMode) → gate.stops_on_fall m ≡ false → (fall_effect (mode_number m)).raises ≡ false
still-raises =
    every-mode (λ (m : ChannelMode). gate.stops_on_fall m ≡ false → (fall_effect (mode_number m)).raises ≡ false)
    (λ s. refl) (λ s. refl) (λ s. absurd (true≢false s)) (λ s. absurd (true≢false s)) (λ s. absurd (true≢false s)) (λ s. refl)

-- a fall that enters a state raises the output, or the mode is 4
pub quiet-fall : (m : ChannelMode) → (fall_effect (mode_number m)).raises ≡ false → eqb (mode_number m) 4 ≡ false → gate.stops_on_fall m ≡ false
quiet-fall =
    every-mode (λ (m : ChannelMode). (fall_effect (mode_number m)).raises ≡ false → eqb (mode_number m) 4 ≡ false → gate.stops_on_fall m ≡ false)
    (λ r f. refl) (λ r f. refl) (λ r f. absurd (true≢false r)) (λ r f. absurd (true≢false r)) (λ r f. absurd (true≢false f)) (λ r f. refl)

pub raised-holds : (m : ChannelMode) → (fall_effect (mode_number m)).raises ≡ true → (gate.stops_on_fall m ≡ true) × (does_retrigger m ≡ true)
raised-holds =
    every-mode (λ (m : ChannelMode). (fall_effect (mode_number m)).raises ≡ true → (gate.stops_on_fall m ≡ true) × (does_retrigger m ≡ true))
    (λ r. absurd (false≢true r)) (λ r. absurd (false≢true r)) (λ r. (refl, refl)) (λ r. (refl, refl)) (λ r. absurd (false≢true r)) (λ r. absurd (false≢true r))

pub loads-not-zero : (m : ChannelMode) → (rise_effect (mode_number m)).loads ≡ true → m ≡ InterruptOnTerminalCount → ⊥
loads-not-zero m loads zero-mode = false≢true (sym (ap (λ (x : ChannelMode). (rise_effect (mode_number x)).loads) zero-mode) ∙ loads)

pub started-loads : (m : ChannelMode) → triggered m ≡ true → ((rise_effect (mode_number m)).loads ≡ true) × (gate.stops_on_fall m ≡ false)
started-loads =
    every-mode (λ (m : ChannelMode). triggered m ≡ true → ((rise_effect (mode_number m)).loads ≡ true) × (gate.stops_on_fall m ≡ false))
    (λ s. absurd (false≢true s)) (λ s. (refl, refl)) (λ s. absurd (false≢true s)) (λ s. absurd (false≢true s)) (λ s. absurd (false≢true s)) (λ s. (refl, refl))

pub down-keeps-level : (m : ChannelMode) → counts_down m ≡ true → (fall_effect (mode_number m)).raises ≡ false
down-keeps-level =
    every-mode (λ (m : ChannelMode). counts_down m ≡ true → (fall_effect (mode_number m)).raises ≡ false)
    (λ d. refl) (λ d. refl) (λ d. absurd (false≢true d)) (λ d. absurd (false≢true d)) (λ d. refl) (λ d. refl)

pub repeats-loads : (m : ChannelMode) → does_retrigger m ≡ true → (rise_effect (mode_number m)).loads ≡ true
repeats-loads =
    every-mode (λ (m : ChannelMode). does_retrigger m ≡ true → (rise_effect (mode_number m)).loads ≡ true)
    (λ d. absurd (false≢true d)) (λ d. refl) (λ d. refl) (λ d. refl) (λ d. absurd (false≢true d)) (λ d. refl)

pub goes-not : (s : ChannelState) → goes_on s ≡ true → waits_for_reload s ≡ false
goes-not WaitingForReload goes = absurd (false≢true goes)
goes-not WaitingForGate goes = refl
goes-not DeferLoadCycle goes = refl
goes-not WaitingForLoadCycle goes = refl
goes-not WaitingForLoadTrigger goes = refl
goes-not (Counting f) goes = refl

pub underway-not : (s : ChannelState) → underway s ≡ true → waits_for_reload s ≡ false
underway-not WaitingForReload goes = absurd (false≢true goes)
underway-not WaitingForGate goes = refl
underway-not DeferLoadCycle goes = refl
underway-not WaitingForLoadCycle goes = refl
underway-not WaitingForLoadTrigger goes = refl
underway-not (Counting f) goes = refl

pub standing-not : (model : PitType) (c : Core) (n j : ℕ) → Standing model c n j → waits_for_reload c.state ≡ false
standing-not model c n j (down d) = goes-not c.state d.goes
standing-not model c n j (rate r) = ap waits_for_reload r.counts
standing-not model c n j (square s) = ap waits_for_reload s.counts
standing-not model c n j (paused p) = underway-not c.state p.holds

pub waiting-not : (late : Bool) (s : ChannelState) (m : ChannelMode) → WaitsIn late s m → waits_for_reload s ≡ false
waiting-not true s m waits = ap waits_for_reload waits
waiting-not false s m waits = load-come s m waits

abbrev pub is_zero : ChannelMode → Bool
is_zero m = eqb (mode_number m) 0

-- a gate leaves what the mode sets left for loads
pub edge-reloading : (was level : Bool) (c : Channel) → (gate.edge was level c).reloading ≡ c.reloading
unfolding change_channel_state change_output_state
edge-reloading false false c = refl
edge-reloading false true c = simp (of-pick (λ (d : Channel). d.reloading), pick_same)
edge-reloading true false c = simp (of-pick (λ (d : Channel). d.reloading), pick_same)
edge-reloading true true c = refl

pub gate-reloading : (c : Channel) (level : Bool) → (gate.set_gate c level).reloading ≡ c.reloading
unfolding gate.set_gate
gate-reloading c level = simp (of-pick (λ (d : Channel). d.reloading), edge-reloading c.pins.gate level c, pick_same)

pub edge-load : (was level : Bool) (c : Channel) → (gate.edge was level c).load ≡ c.load
unfolding change_channel_state change_output_state
edge-load false false c = refl
edge-load false true c = simp (of-pick (λ (d : Channel). d.load), pick_same)
edge-load true false c = simp (of-pick (λ (d : Channel). d.load), pick_same)
edge-load true true c = refl

pub gate-load : (c : Channel) (level : Bool) → (gate.set_gate c level).load ≡ c.load
unfolding gate.set_gate
gate-load c level = simp (of-pick (λ (d : Channel). d.load), edge-load c.pins.gate level c, pick_same)

pub raised : (b : Bool) (o : Fixed Bool) (level : Bool) → IsFixed o level → IsFixed (cond b (fixed_at true) o) (cond b true level)
raised true o level is = refl
raised false o level is = is

pub trigger-not : (c : Core) → TriggerAwaited c → waits_for_reload c.state ≡ false
trigger-not c =
    ⊎_elim
    (λ (waits : (c.state ≡ WaitingForLoadTrigger) × (triggered c.control.mode ≡ true)). ap waits_for_reload waits.0)
    (λ (held : (underway c.state ≡ true) × ((does_retrigger c.control.mode ≡ true) × (c.pins.gate ≡ false))). underway-not c.state held.0)
