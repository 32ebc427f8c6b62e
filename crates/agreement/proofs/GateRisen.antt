-- G0, G4, "rising": nothing, but that a count underway goes on. Assumes nothing.
use mathlib.Core.Bool.{Bool, true, false, true≢false, ◌||◌}
use mathlib.Core.Path.{◌≡◌, refl}
use Rattle.channel.specs.declared.Channel.{Channel}
use Rattle.channel.specs.declared.ChannelMode.{ChannelMode}
use Rattle.channel.specs.declared.ChannelMode.TheVariants.{InterruptOnTerminalCount, HardwareRetriggerableOneShot, RateGenerator, SquareWaveGenerator, SoftwareTriggeredStrobe, HardwareTriggeredStrobe}
use Rattle.channel.specs.declared.PitType.{PitType}
use Rattle.channel.specs.Modes.{mode_number}
use Rattle.channel.specs.Shared.{put_element}
use Rattle.channel.proofs.Pick.{pick_same}
use Rattle.count.specs.Count.{count}
use Rattle.gate.specs.Gate.{edge, with_gate, set_gate}
use Rattle.sheet.specs.Gate.{rise_effect}
use Rattle.tick.specs.Due.{triggered}
use Rattle.tick.specs.Tick.{tick}
use Rattle.agreement.specs.Gating.{goes_on, rise}
use Rattle.agreement.proofs.Gate.{loads-agree}
use Rattle.agreement.proofs.CountsDown.{counts_down, tick-down}

-- a rise where it loads nothing: of the record only the level changes ..
rise-in : (was : Bool) (c : Channel) → (rise c).loads ≡ false → edge was true c ≡ c
rise-in false c none = simp (loads-agree, none)
rise-in true c none = refl

pub rising-nothing : (c : Channel) → (rise c).loads ≡ false → set_gate c true ≡ with_gate c true
unfolding set_gate
rising-nothing c none = simp (rise-in c.pins.gate c none, pick_same)

-- .. and the next tick takes one from a count underway
every-quiet : (P : ChannelMode → Type 0) → P InterruptOnTerminalCount → P SoftwareTriggeredStrobe
    → (m : ChannelMode) → (rise_effect (mode_number m)).loads ≡ false → P m
every-quiet P p0 p4 InterruptOnTerminalCount none = p0
every-quiet P p0 p4 HardwareRetriggerableOneShot none = absurd (true≢false none)
every-quiet P p0 p4 RateGenerator none = absurd (true≢false none)
every-quiet P p0 p4 SquareWaveGenerator none = absurd (true≢false none)
every-quiet P p0 p4 SoftwareTriggeredStrobe none = p4
every-quiet P p0 p4 HardwareTriggeredStrobe none = absurd (true≢false none)

quiet-down : (m : ChannelMode) → (rise_effect (mode_number m)).loads ≡ false → counts_down m ≡ true
quiet-down = every-quiet (λ (m : ChannelMode). counts_down m ≡ true) refl refl

quiet-runs : (m : ChannelMode) → (rise_effect (mode_number m)).loads ≡ false → (triggered m || true) ≡ true
quiet-runs = every-quiet (λ (m : ChannelMode). (triggered m || true) ≡ true) refl refl

pub risen-counts : (model : PitType) (c : Channel) → (rise c).loads ≡ false → goes_on c.counter.channel_state ≡ true
    → (tick model (set_gate c true)).counter.counting_element ≡ (count c).counter.counting_element
unfolding count put_element
risen-counts model c none goes =
    rw (rising-nothing c none)
    (tick-down model (with_gate c true) (quiet-down c.control.mode none) goes (quiet-runs c.control.mode none)).has_value
