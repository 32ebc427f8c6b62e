-- G0 to G5, rising, in step with the sheets' counter. Assumes nothing.
use Prim.Native.Nat.{ℕ}
use mathlib.Core.Bool.{Bool, true, false, false≢true, cond}
use mathlib.Core.Logic.{inl, ⊎_elim}
use mathlib.Core.Path.{◌≡◌, refl, sym, ap, ◌∙◌, subst}
use Rattle.channel.specs.declared.Channel.{Channel}
use Rattle.channel.specs.declared.ChannelMode.{ChannelMode}
use Rattle.channel.specs.declared.ChannelState.TheVariants.{WaitingForLoadCycle, WaitingForLoadTrigger}
use Rattle.channel.specs.declared.LoadType.{LoadType}
use Rattle.channel.specs.declared.LoadType.TheVariants.{InitialLoad, SubsequentLoad}
use Rattle.channel.specs.declared.PitType.{PitType}
use Rattle.channel.specs.Modes.{mode_number}
use Rattle.channel.specs.Queries.{does_retrigger}
use Rattle.channel.specs.Shared.{waits_for_reload}
use Rattle.gate.specs.Gate as gate
use Rattle.sheet.specs.Gate.{rise_effect}
use Rattle.sheet.specs.Counter.{Fixed, Phase, awaits_count, awaits_trigger, loading, counting, lost, Counter}
use Rattle.sheet.specs.CounterGate.{on_trigger, gated, edge}
use Rattle.tick.specs.Due.{triggered}
use Rattle.agreement.specs.Gating.{underway}
use Rattle.agreement.specs.Watching.{Watch, watching, unless_early, edged, late_after, IsFixed, HoldsValue}
use Rattle.agreement.proofs.Gate.{loads-agree}
use Rattle.agreement.proofs.Tracking.{core_of, last_of, view, Rules, down, rate, square, paused, Standing, AwaitsCount, PhaseAt, Tracks}
use Rattle.agreement.proofs.GateCores.{gated_core, level-core, rise-core, lands}
use Rattle.agreement.proofs.GateTables.{loads-not-zero, repeats-loads, standing-not, waiting-not, trigger-not}

-- one level at the gate, from another
abbrev pub gate_step : Bool → Bool → Counter → Bool → Fixed Bool → Watch
gate_step was level k late one = watching (edged was level k (edge was level k)) (late_after was level k.mode late) one

module _ (model : PitType) (one : Fixed Bool) (v : Fixed ℕ) (c : Channel) (rules : Rules model one (core_of c))
    (value-is : HoldsValue v c.control.bcd_mode c.counter.counting_element) where
  module _ (o : Fixed Bool) (output-is : IsFixed o c.pins.output) where
    -- the phase that a rise leaves, with a count or without, where the mode loads and where it does not
    abbrev phase_then : LoadType → Bool → Phase → Phase
    phase_then t loads p =
        let count = last_of t c.load.reload_value in
        unless_early count p (cond loads (on_trigger count (mode_number c.control.mode) p) p)

    abbrev Risen : Phase → Bool → Type 0
    Risen q late = Tracks model (watching (gated (view (core_of c) q o v) true q o) late one) (core_of (gate.set_gate c true))

    -- a rise in the modes that it makes load
    module _ (low : c.pins.gate ≡ false) (loads : (rise_effect (mode_number c.control.mode)).loads ≡ true) where
      triggers : c.load.load_type ≡ SubsequentLoad → waits_for_reload c.counter.channel_state ≡ false → (p : Phase) → Risen (phase_then c.load.load_type true p) false
      triggers complete acts p =
          subst (λ (t : LoadType). Risen (phase_then t true p) false) (sym complete)
          (lands model one v c rules value-is true WaitingForLoadCycle c.pins.output loading o false (record { waits = tt; complete = complete }) output-is
          (rise-core c true acts low (loads-agree c.control.mode ∙ loads)))

      -- a trigger before the count is ignored
      early : AwaitsCount (core_of c) → Risen (phase_then c.load.load_type true awaits_count) false
      early h =
          subst (λ (t : LoadType). Risen (phase_then t true awaits_count) false) (sym (h.none (loads-not-zero c.control.mode loads)))
          (lands model one v c rules value-is true c.counter.channel_state c.pins.output awaits_count o false
          (record { waits = h.waits; none = h.none; is-high = h.is-high })
          output-is
          (level-core c true (ap waits_for_reload h.waits)))

      rise-loads : (p : Phase) (late : Bool) → PhaseAt p late model (core_of c) → Risen (phase_then c.load.load_type true p) false
      rise-loads awaits_count late h = early h
      rise-loads awaits_trigger late h = triggers h.complete (trigger-not (core_of c) h.waits) awaits_trigger
      rise-loads loading late h = triggers h.complete (waiting-not late c.counter.channel_state c.control.mode h.waits) loading
      rise-loads (counting n j) late h = triggers h.complete (standing-not model (core_of c) n j h.there) (counting n j)
      rise-loads lost late h = triggers h.complete (h.come (loads-not-zero c.control.mode loads)) lost

    -- a rise in modes 0 and 4: the level alone
    module _ (low : c.pins.gate ≡ false) (none : (rise_effect (mode_number c.control.mode)).loads ≡ false) where
      risen-core : (w : Bool) → waits_for_reload c.counter.channel_state ≡ w
          → core_of (gate.set_gate c true) ≡ gated_core true c.counter.channel_state c.pins.output (core_of c)
      risen-core true waits = level-core c true waits
      risen-core false acts = rise-core c false acts low (loads-agree c.control.mode ∙ none)

      still-there : (n j : ℕ) → Standing model (core_of c) n j
          → Standing model (gated_core true c.counter.channel_state c.pins.output (core_of c)) n j
      still-there n j (down d) = down (record { down = d.down; has_value = d.has_value; goes = d.goes; level = d.level; armed = d.armed })
      still-there n j (rate r) = absurd (false≢true (sym none ∙ ap (λ (m : ChannelMode). (rise_effect (mode_number m)).loads) r.rate))
      still-there n j (square s) = absurd (false≢true (sym none ∙ ap (λ (m : ChannelMode). (rise_effect (mode_number m)).loads) s.square))
      still-there n j (paused p) = absurd (false≢true (sym none ∙ repeats-loads c.control.mode p.repeats))

      phase-risen : (p : Phase) (late : Bool) → PhaseAt p late model (core_of c)
          → PhaseAt p late model (gated_core true c.counter.channel_state c.pins.output (core_of c))
      phase-risen awaits_count late h = record { waits = h.waits; none = h.none; is-high = h.is-high }
      phase-risen awaits_trigger late h =
          record {
            waits =
                ⊎_elim
                (λ (waits : (c.counter.channel_state ≡ WaitingForLoadTrigger) × (triggered c.control.mode ≡ true)). inl waits)
                (λ (held : (underway c.counter.channel_state ≡ true) × ((does_retrigger c.control.mode ≡ true) × (c.pins.gate ≡ false))).
                absurd (false≢true (sym none ∙ repeats-loads c.control.mode held.1.0)))
                h.waits;
            complete = h.complete;
          }
      phase-risen loading late h = record { waits = h.waits; complete = h.complete }
      phase-risen (counting n j) late h = record { complete = h.complete; at_least = h.at_least; at_most = h.at_most; there = still-there n j h.there }
      phase-risen lost late h = record { complete = h.complete; come = h.come }

      rise-none : (p : Phase) (late : Bool) → PhaseAt p late model (core_of c) → Risen p late
      rise-none p late h =
          lands model one v c rules value-is true c.counter.channel_state c.pins.output p o late (phase-risen p late h) output-is
          (risen-core (waits_for_reload c.counter.channel_state) refl)

    same-phase : (t : LoadType) (p : Phase) → phase_then t false p ≡ p
    same-phase InitialLoad p = refl
    same-phase SubsequentLoad p = refl

    rise-by : (p : Phase) (late : Bool) → c.pins.gate ≡ false → PhaseAt p late model (core_of c)
        → (b : Bool) → (rise_effect (mode_number c.control.mode)).loads ≡ b → Risen (phase_then c.load.load_type b p) (cond b false late)
    rise-by p late low h true loads = rise-loads low loads p late h
    rise-by p late low h false none = subst (λ (q : Phase). Risen q late) (sym (same-phase c.load.load_type p)) (rise-none low none p late h)

    pub rise-tracks : (p : Phase) (late : Bool) → c.pins.gate ≡ false → PhaseAt p late model (core_of c)
        → Tracks model (gate_step false true (view (core_of c) p o v) late one) (core_of (gate.set_gate c true))
    rise-tracks p late low h = rise-by p late low h (rise_effect (mode_number c.control.mode)).loads refl
