-- G0 to G5: what an edge of the gate does to document 01's record is what the sheets' table says, unless the channel waits for a
-- reload, where the edge is ignored (docs/DIFFERENCES.md). In mode 0 the table's "stops counting" is not in the state: the level that
-- is stored stops the ticks. Assumes nothing.
use mathlib.Core.Path.{◌≡◌, refl}
use mathlib.Core.Bool.{Bool, true, false, cond}
use Rattle.channel.specs.declared.Channel.{Channel}
use Rattle.channel.specs.declared.ChannelMode.{ChannelMode}
use Rattle.channel.specs.declared.ChannelState.TheVariants.{WaitingForGate, WaitingForLoadCycle}
use Rattle.channel.specs.Modes.{mode_number}
use Rattle.channel.specs.Shared.{waits_for_reload, change_channel_state, change_output_state}
use Rattle.channel.specs.Queries.{get_output_state}
use Rattle.channel.proofs.Modes.{every-mode}
use Rattle.channel.proofs.Pick.{of-pick, pick_same}
use Rattle.gate.specs.Gate.{loads_on_rise, stops_on_fall, high_on_fall, set_gate}
use Rattle.sheet.specs.Gate.{fall_effect, rise_effect}

-- the table's three questions, mode by mode
pub loads-agree : (m : ChannelMode) → loads_on_rise m ≡ (rise_effect (mode_number m)).loads
loads-agree = every-mode (λ (m : ChannelMode). loads_on_rise m ≡ (rise_effect (mode_number m)).loads) refl refl refl refl refl refl

pub raises-agree : (m : ChannelMode) → high_on_fall m ≡ (fall_effect (mode_number m)).raises
raises-agree = every-mode (λ (m : ChannelMode). high_on_fall m ≡ (fall_effect (mode_number m)).raises) refl refl refl refl refl refl

stops-agree : (m : ChannelMode) → (mode_number m ≡ 0 → ⊥) → stops_on_fall m ≡ (fall_effect (mode_number m)).stops
stops-agree =
    every-mode
    (λ (m : ChannelMode). (mode_number m ≡ 0 → ⊥) → stops_on_fall m ≡ (fall_effect (mode_number m)).stops)
    (λ other. absurd (other refl))
    (λ other. refl)
    (λ other. refl)
    (λ other. refl)
    (λ other. refl)
    (λ other. refl)

module _ (c : Channel) (acts : waits_for_reload c.counter.channel_state ≡ false) where
  pub rise-state : c.pins.gate ≡ false
      → (set_gate c true).counter.channel_state
      ≡ cond (rise_effect (mode_number c.control.mode)).loads WaitingForLoadCycle c.counter.channel_state
  unfolding set_gate change_channel_state
  rise-state low = simp (acts, low, of-pick (λ (d : Channel). d.counter.channel_state), loads-agree)

  pub rise-output : c.pins.gate ≡ false → (set_gate c true).pins.output ≡ c.pins.output
  unfolding set_gate change_channel_state
  rise-output low = simp (acts, low, of-pick get_output_state, pick_same)

  pub fall-state : c.pins.gate ≡ true → (mode_number c.control.mode ≡ 0 → ⊥)
      → (set_gate c false).counter.channel_state
      ≡ cond (fall_effect (mode_number c.control.mode)).stops WaitingForGate c.counter.channel_state
  unfolding set_gate change_channel_state change_output_state
  fall-state high other = simp (acts, high, of-pick (λ (d : Channel). d.counter.channel_state), pick_same, stops-agree c.control.mode other)

  pub fall-output : c.pins.gate ≡ true
      → (set_gate c false).pins.output ≡ cond (fall_effect (mode_number c.control.mode)).raises true c.pins.output
  unfolding set_gate change_channel_state change_output_state
  fall-output high = simp (acts, high, of-pick get_output_state, of-pick (λ (d : Channel). d.control), pick_same, raises-agree)

-- in every mode the level is kept for the ticks to see, in mode 0 nothing else
pub level-kept : (c : Channel) (level : Bool) → (set_gate c level).pins.gate ≡ level
unfolding set_gate
level-kept c level = refl
