-- G0, G2 to G4: the output while the gate is low: high at once and for good in modes 2 and 3, as it stood in mode 0, and in mode 4 a strobe ends with its one
-- tick. Assumes nothing.
use Prim.Native.Nat.{ℕ, suc}
use mathlib.Core.Bool.{Bool, true, false, false≢true}
use mathlib.Core.Path.{◌≡◌, refl, ap, ◌∙◌}
use Rattle.numbers.specs.Times.{times}
use Rattle.channel.specs.declared.Channel.{Channel}
use Rattle.channel.specs.declared.ChannelMode.{ChannelMode}
use Rattle.channel.specs.declared.ChannelMode.TheVariants.{InterruptOnTerminalCount, HardwareRetriggerableOneShot, RateGenerator, SquareWaveGenerator, SoftwareTriggeredStrobe, HardwareTriggeredStrobe}
use Rattle.channel.specs.declared.ChannelState.TheVariants.{WaitingForGate}
use Rattle.channel.specs.declared.ControlWord.{ControlWord}
use Rattle.channel.specs.declared.PitType.{PitType}
use Rattle.channel.specs.Modes.{mode_number}
use Rattle.channel.specs.Queries.{get_output_state}
use Rattle.channel.specs.Shared.{waits_for_reload, change_channel_state, change_output_state}
use Rattle.channel.proofs.Modes.{every-mode}
use Rattle.channel.proofs.Pick.{of-pick, pick_same, pick-holds}
use Rattle.gate.specs.Gate.{stops_on_fall, high_on_fall, edge, with_gate, set_gate}
use Rattle.gate.proofs.Keeps.{gate-keeps}
use Rattle.sheet.specs.Gate.{fall_effect}
use Rattle.tick.specs.declared.due.Kind.TheVariants.{Idle}
use Rattle.tick.specs.Due.{triggered, due}
use Rattle.tick.specs.Level.{rest_level}
use Rattle.tick.specs.Tick.{tick}
use Rattle.agreement.specs.Gating.{underway, low}
use Rattle.agreement.proofs.Gate.{raises-agree}
use Rattle.agreement.proofs.GateStops.{idle-low}
use Rattle.agreement.proofs.Idling.{output-rests, output-stands}

-- the modes whose output a falling gate takes high
every-raised : (P : ChannelMode → Type 0) → P RateGenerator → P SquareWaveGenerator
    → (m : ChannelMode) → (fall_effect (mode_number m)).raises ≡ true → P m
every-raised P p2 p3 InterruptOnTerminalCount raises = absurd (false≢true raises)
every-raised P p2 p3 HardwareRetriggerableOneShot raises = absurd (false≢true raises)
every-raised P p2 p3 RateGenerator raises = p2
every-raised P p2 p3 SquareWaveGenerator raises = p3
every-raised P p2 p3 SoftwareTriggeredStrobe raises = absurd (false≢true raises)
every-raised P p2 p3 HardwareTriggeredStrobe raises = absurd (false≢true raises)

raised-stops : (m : ChannelMode) → (fall_effect (mode_number m)).raises ≡ true → stops_on_fall m ≡ true
raised-stops = every-raised (λ (m : ChannelMode). stops_on_fall m ≡ true) refl refl

raised-high : (m : ChannelMode) → (fall_effect (mode_number m)).raises ≡ true → high_on_fall m ≡ true
raised-high = every-raised (λ (m : ChannelMode). high_on_fall m ≡ true) refl refl

raised-level : (m : ChannelMode) → (fall_effect (mode_number m)).raises ≡ true → triggered m ≡ false
raised-level = every-raised (λ (m : ChannelMode). triggered m ≡ false) refl refl

-- a high output rests in every mode
high-rests : (m : ChannelMode) → rest_level m true ≡ true
high-rests = every-mode (λ (m : ChannelMode). rest_level m true ≡ true) refl refl refl refl refl refl

-- the record that such a fall leaves
abbrev after_fall : Channel → Channel
after_fall c = with_gate (change_output_state (change_channel_state c WaitingForGate) true) false

fallen : (c : Channel) → waits_for_reload c.counter.channel_state ≡ false → (low c).raises ≡ true → c.pins.gate ≡ true
    → set_gate c false ≡ after_fall c
unfolding set_gate change_channel_state
fallen c acts raises was = simp (acts, was, raised-stops c.control.mode raises, raised-high c.control.mode raises)

fallen-idle : (c : Channel) → (low c).raises ≡ true → due (after_fall c) ≡ Idle
unfolding due change_output_state change_channel_state
fallen-idle c raises = simp (raised-level c.control.mode raises)

fallen-high : (model : PitType) (c : Channel) → (low c).raises ≡ true → (j : ℕ) → (times j (tick model) (after_fall c)).pins.output ≡ true
unfolding change_output_state change_channel_state
fallen-high model c raises j = output-stands model (after_fall c) (fallen-idle c raises) (high-rests c.control.mode) j

pub low-raises : (model : PitType) (c : Channel) → waits_for_reload c.counter.channel_state ≡ false
    → (low c).raises ≡ true → c.pins.gate ≡ true → (j : ℕ) → (times j (tick model) (set_gate c false)).pins.output ≡ true
low-raises model c acts raises was j = rw (fallen c acts raises was) (fallen-high model c raises j)

-- a fall that raises nothing leaves the output
left-edge : (was : Bool) (c : Channel) → (low c).raises ≡ false → (edge was false c).pins.output ≡ c.pins.output
unfolding change_channel_state change_output_state
left-edge false c none = refl
left-edge true c none = simp (of-pick get_output_state, of-pick (λ (d : Channel). d.control), pick_same, raises-agree, none)

pub low-leaves : (c : Channel) → (low c).raises ≡ false → (set_gate c false).pins.output ≡ c.pins.output
unfolding set_gate
low-leaves c none =
    pick-holds (λ (d : Channel). d.pins.output ≡ c.pins.output) (waits_for_reload c.counter.channel_state) c
    (edge c.pins.gate false c)
    refl
    (left-edge c.pins.gate c none)

module _ (model : PitType) (c : Channel) (going : underway c.counter.channel_state ≡ true) where
  same-mode : (set_gate c false).control.mode ≡ c.control.mode
  same-mode = ap (λ (w : ControlWord). w.mode) (gate-keeps c false).control-kept

  pub low_stands : c.control.mode ≡ InterruptOnTerminalCount
      → (j : ℕ) → (times j (tick model) (set_gate c false)).pins.output ≡ c.pins.output
  low_stands zero-mode j =
      output-stands model (set_gate c false) (idle-low c (rw zero-mode refl) going)
      (ap (λ (m : ChannelMode). rest_level m (set_gate c false).pins.output) (same-mode ∙ zero-mode))
      j
      ∙ low-leaves c (rw zero-mode refl)

  pub low-strobes-once : c.control.mode ≡ SoftwareTriggeredStrobe
      → (j : ℕ) → (times (suc j) (tick model) (set_gate c false)).pins.output ≡ true
  low-strobes-once strobe j =
      output-rests model (set_gate c false) (idle-low c (rw strobe refl) going) j
      ∙ ap (λ (m : ChannelMode). rest_level m (set_gate c false).pins.output) (same-mode ∙ strobe)
