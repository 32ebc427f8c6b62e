-- G1, G2, G3, G5, "rising": the next tick loads, in mode 1 with the output low, in the others high. Assumes nothing.
use mathlib.Core.Bool.{Bool, true, false, false≢true, not, cond, ◌&&◌}
use mathlib.Core.Path.{◌≡◌, refl, ◌∙◌}
use lib.Dec.{eqb}
use Rattle.channel.specs.declared.Channel.{Channel}
use Rattle.channel.specs.declared.ChannelMode.{ChannelMode}
use Rattle.channel.specs.declared.ChannelState.TheVariants.{WaitingForLoadCycle, Counting}
use Rattle.channel.specs.declared.PitType.{PitType}
use Rattle.channel.specs.declared.ReloadFlag.TheVariants.{Normal}
use Rattle.channel.specs.Modes.{mode_number}
use Rattle.channel.specs.Shared.{waits_for_reload, change_channel_state}
use Rattle.channel.specs.Queries.{does_retrigger}
use Rattle.channel.proofs.Modes.{every-mode}
use Rattle.channel.proofs.Pick.{pick_same}
use Rattle.gate.specs.Gate.{with_gate, set_gate}
use Rattle.load.specs.Cycle.{load_value}
use Rattle.load.proofs.Value.{value-alike}
use Rattle.sheet.specs.Gate.{rise_effect}
use Rattle.tick.specs.declared.due.Kind.TheVariants.{Load}
use Rattle.tick.specs.Due.{due}
use Rattle.tick.specs.Level.{load_level}
use Rattle.tick.specs.Tick.{never_loaded, tick}
use Rattle.agreement.specs.Gating.{rise, LoadsOnRise}
use Rattle.agreement.proofs.Gate.{loads-agree}
use Rattle.agreement.proofs.TickLoads.{tick-loads, tick-level}

-- a rise that acts changes the level and the state
abbrev pub after_rise : Channel → Channel
after_rise c = with_gate (change_channel_state c WaitingForLoadCycle) true

pub risen : (c : Channel) → waits_for_reload c.counter.channel_state ≡ false → (rise c).loads ≡ true → c.pins.gate ≡ false
    → set_gate c true ≡ after_rise c
unfolding set_gate
risen c acts loads was = simp (acts, was, loads-agree, loads)

pub rise-due : (c : Channel) → due (after_rise c) ≡ Load
unfolding due change_channel_state
rise-due c = refl

-- where the load leaves the output, whether or not the count is the 1 that is not loaded
abbrev LevelThen : Bool → ChannelMode → Type 0
LevelThen one m = (rise_effect (mode_number m)).loads ≡ true → cond (does_retrigger m && one) true (load_level m) ≡ not (rise_effect (mode_number m)).lowers

risen-level : (one : Bool) (m : ChannelMode) → LevelThen one m
risen-level one =
    every-mode (LevelThen one)
    (λ loads. absurd (false≢true loads))
    (λ loads. refl)
    (λ loads. pick_same one true)
    (λ loads. pick_same one true)
    (λ loads. absurd (false≢true loads))
    (λ loads. refl)

module _ (model : PitType) (c : Channel) where
  rise-level : (rise c).loads ≡ true → (tick model (after_rise c)).pins.output ≡ not (rise c).lowers
  unfolding change_channel_state
  rise-level loads = tick-level model (after_rise c) (rise-due c) ∙ risen-level (eqb c.load.reload_value 1) c.control.mode loads

  rise-value : never_loaded c ≡ false → (tick model (after_rise c)).counter.counting_element ≡ load_value c
  unfolding change_channel_state
  rise-value may = (tick-loads (after_rise c) may model (rise-due c)).has_value ∙ value-alike c (after_rise c) refl refl refl

  rise-counting : never_loaded c ≡ false → (tick model (after_rise c)).counter.channel_state ≡ Counting Normal
  unfolding change_channel_state
  rise-counting may = (tick-loads (after_rise c) may model (rise-due c)).is-counting

  pub rising-loads : waits_for_reload c.counter.channel_state ≡ false → (rise c).loads ≡ true → c.pins.gate ≡ false → LoadsOnRise model c
  rising-loads acts loads was =
      record {
        load-due = rw (risen c acts loads was) (rise-due c);
        level-then = rw (risen c acts loads was) (rise-level loads);
        value-then = λ may. rw (risen c acts loads was) (rise-value may);
        counting-then = λ may. rw (risen c acts loads was) (rise-counting may);
      }
