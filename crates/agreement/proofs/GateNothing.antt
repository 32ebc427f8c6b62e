-- G1, G5: a gate that is low, or goes low, or is high, does "nothing": the tick does the same, whatever the level. Assumes nothing.
use mathlib.Core.Bool.{Bool, true, false, false≢true, not}
use mathlib.Core.Path.{◌≡◌, refl, sym, ◌∙◌}
use borrow.Author.Tests.{not-false}
use Rattle.channel.specs.declared.Channel.{Channel}
use Rattle.channel.specs.declared.ChannelMode.{ChannelMode}
use Rattle.channel.specs.declared.ChannelMode.TheVariants.{InterruptOnTerminalCount, HardwareRetriggerableOneShot, RateGenerator, SquareWaveGenerator, SoftwareTriggeredStrobe, HardwareTriggeredStrobe}
use Rattle.channel.specs.declared.ChannelState.{ChannelState}
use Rattle.channel.specs.declared.ChannelState.TheVariants.{WaitingForReload, WaitingForGate, DeferLoadCycle, WaitingForLoadCycle, WaitingForLoadTrigger, Counting}
use Rattle.channel.specs.declared.PitType.{PitType}
use Rattle.channel.specs.declared.ReloadFlag.TheVariants.{Normal, ReloadNextCycle}
use Rattle.channel.specs.Modes.{mode_number}
use Rattle.channel.proofs.Modes.{every-mode}
use Rattle.channel.proofs.Pick.{pick_same}
use Rattle.gate.specs.Gate.{stops_on_fall, high_on_fall, edge, with_gate, set_gate}
use Rattle.sheet.specs.Gate.{high_counts}
use Rattle.tick.specs.Due.{triggered, due_in, due}
use Rattle.tick.specs.Tick.{tick}
use Rattle.agreement.specs.Gating.{low, high}
use Rattle.agreement.proofs.LevelUnseen.{unseen-level}
use Rattle.agreement.proofs.GateStops.{stops-level}

-- what is due does not hang on the level where a trigger starts the mode
unseen-in : (s : ChannelState) (gate : Bool) (c : Channel) → triggered c.control.mode ≡ true → due_in s (with_gate c gate) ≡ due_in s c
unseen-in WaitingForReload gate c starts = refl
unseen-in WaitingForGate gate c starts = simp starts
unseen-in DeferLoadCycle gate c starts = refl
unseen-in WaitingForLoadCycle gate c starts = refl
unseen-in WaitingForLoadTrigger gate c starts = refl
unseen-in (Counting Normal) gate c starts = simp starts
unseen-in (Counting ReloadNextCycle) gate c starts = simp starts

level-nothing : (gate : Bool) (model : PitType) (c : Channel) → triggered c.control.mode ≡ true
    → tick model (with_gate c gate) ≡ with_gate (tick model c) gate
unfolding due
level-nothing gate model c starts = unseen-level gate model c (unseen-in c.counter.channel_state gate c starts)

-- the column "high" says counting of the modes that no trigger starts
pub counts-level : (m : ChannelMode) → high_counts (mode_number m) ≡ not (triggered m)
counts-level = every-mode (λ (m : ChannelMode). high_counts (mode_number m) ≡ not (triggered m)) refl refl refl refl refl refl

pub high-nothing : (model : PitType) (c : Channel) → high c ≡ false → tick model (with_gate c true) ≡ with_gate (tick model c) true
high-nothing model c none = level-nothing true model c (not-false _ (sym (counts-level c.control.mode) ∙ none))

-- no falling edge acts in a mode that a trigger starts
every-triggered : (P : ChannelMode → Type 0) → P HardwareRetriggerableOneShot → P HardwareTriggeredStrobe
    → (m : ChannelMode) → triggered m ≡ true → P m
every-triggered P p1 p5 InterruptOnTerminalCount starts = absurd (false≢true starts)
every-triggered P p1 p5 HardwareRetriggerableOneShot starts = p1
every-triggered P p1 p5 RateGenerator starts = absurd (false≢true starts)
every-triggered P p1 p5 SquareWaveGenerator starts = absurd (false≢true starts)
every-triggered P p1 p5 SoftwareTriggeredStrobe starts = absurd (false≢true starts)
every-triggered P p1 p5 HardwareTriggeredStrobe starts = p5

no_stop : (m : ChannelMode) → triggered m ≡ true → stops_on_fall m ≡ false
no_stop = every-triggered (λ (m : ChannelMode). stops_on_fall m ≡ false) refl refl

no_raise : (m : ChannelMode) → triggered m ≡ true → high_on_fall m ≡ false
no_raise = every-triggered (λ (m : ChannelMode). high_on_fall m ≡ false) refl refl

fall-in : (was : Bool) (c : Channel) → triggered c.control.mode ≡ true → edge was false c ≡ c
fall-in false c starts = refl
fall-in true c starts = simp (no_stop c.control.mode starts, no_raise c.control.mode starts)

fall-nothing : (c : Channel) → triggered c.control.mode ≡ true → set_gate c false ≡ with_gate c false
unfolding set_gate
fall-nothing c starts = simp (fall-in c.pins.gate c starts, pick_same)

pub low-nothing : (model : PitType) (c : Channel) → (low c).stops ≡ false → tick model (set_gate c false) ≡ with_gate (tick model c) false
low-nothing model c none =
    let starts : triggered c.control.mode ≡ true = not-false _ (sym (stops-level c.control.mode) ∙ none) in
    rw (fall-nothing c starts) (level-nothing false model c starts)
