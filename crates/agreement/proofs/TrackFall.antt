-- G0 to G5, going low, in step with the sheets' counter. Assumes nothing.
use Prim.Native.Nat.{ℕ}
use mathlib.Core.Bool.{Bool, true, false, true≢false, false≢true, cond}
use mathlib.Core.Logic.{inl, inr, ⊎_elim}
use lib.Dec.{eqb}
use mathlib.Core.Path.{◌≡◌, refl, sym, ap, ◌∙◌, subst}
use Rattle.channel.specs.declared.Channel.{Channel}
use Rattle.channel.specs.declared.ChannelMode.{ChannelMode}
use Rattle.channel.specs.declared.ChannelMode.TheVariants.{InterruptOnTerminalCount, HardwareRetriggerableOneShot, RateGenerator, SquareWaveGenerator, SoftwareTriggeredStrobe, HardwareTriggeredStrobe}
use Rattle.channel.specs.declared.ChannelState.{ChannelState}
use Rattle.channel.specs.declared.ChannelState.TheVariants.{WaitingForLoadTrigger}
use Rattle.channel.specs.declared.PitType.{PitType}
use Rattle.channel.specs.Modes.{mode_number}
use Rattle.channel.specs.Queries.{does_retrigger}
use Rattle.channel.specs.Shared.{waits_for_reload}
use Rattle.gate.specs.Gate as gate
use Rattle.sheet.specs.Gate.{fall_effect}
use Rattle.sheet.specs.Ticking.{held, value_after}
use Rattle.sheet.specs.Counter.{Fixed, fixed_at, Phase, awaits_count, awaits_trigger, loading, counting, lost}
use Rattle.sheet.specs.CounterGate.{gated}
use Rattle.agreement.specs.Gating.{underway, goes_on}
use Rattle.agreement.specs.Words.{sheet_chip}
use Rattle.tick.specs.Due.{triggered}
use Rattle.agreement.specs.Watching.{watching, IsFixed, HoldsValue}
use Rattle.agreement.proofs.Gate.{raises-agree}
use Rattle.agreement.proofs.TrackSquare.{value_there}
use Rattle.agreement.proofs.Tracking.{Core, core_of, view, Rules, down, rate, square, paused, Standing, AwaitsCount, AwaitsTrigger, Loading, Lost, PhaseAt, Tracks}
use Rattle.agreement.proofs.GateCores.{gated_core, fall_state, level-core, fall-core, lands}
use Rattle.agreement.proofs.GateTables.{quiet-fall, raised-holds, still-raises, started-loads, down-keeps-level, standing-not, waiting-not, is_zero, raised}
use Rattle.agreement.proofs.TrackRise.{gate_step}

module _ (model : PitType) (one : Fixed Bool) (v : Fixed ℕ) (c : Channel) (rules : Rules model one (core_of c))
    (value-is : HoldsValue v c.control.bcd_mode c.counter.counting_element) where
  module _ (o : Fixed Bool) (output-is : IsFixed o c.pins.output) where
    -- a fall
    module _ (high : c.pins.gate ≡ true) where
      abbrev raises : Bool
      raises = (fall_effect (mode_number c.control.mode)).raises

      abbrev fallen_output : Fixed Bool
      fallen_output = cond raises (fixed_at true) o

      abbrev fallen_core : ChannelState → Bool → Core
      fallen_core s level = gated_core false s level (core_of c)

      acting : waits_for_reload c.counter.channel_state ≡ false
          → core_of (gate.set_gate c false)
          ≡ fallen_core (fall_state (gate.stops_on_fall c.control.mode) c.counter.channel_state) (cond raises true c.pins.output)
      acting acts = fall-core c (gate.stops_on_fall c.control.mode) raises acts high refl (raises-agree c.control.mode)

      -- a fall that enters no state leaves the output too
      quiet-core : gate.stops_on_fall c.control.mode ≡ false → (w : Bool) → waits_for_reload c.counter.channel_state ≡ w
          → core_of (gate.set_gate c false) ≡ fallen_core c.counter.channel_state c.pins.output
      quiet-core none true waits = level-core c false waits
      quiet-core none false acts =
          fall-core c false false acts high none (raises-agree c.control.mode ∙ still-raises c.control.mode none)

      quiet : gate.stops_on_fall c.control.mode ≡ false → (p : Phase) (late : Bool)
          → PhaseAt p late model (fallen_core c.counter.channel_state c.pins.output)
          → Tracks model (watching (gated (view (core_of c) p o v) false p fallen_output) late one) (core_of (gate.set_gate c false))
      quiet none p late there =
          subst (λ (b : Bool). Tracks model (watching (gated (view (core_of c) p o v) false p (cond b (fixed_at true) o)) late one) (core_of (gate.set_gate c false)))
          (sym (still-raises c.control.mode none))
          (lands model one v c rules value-is false c.counter.channel_state c.pins.output p o late there output-is
          (quiet-core none (waits_for_reload c.counter.channel_state) refl))

      -- one that acts
      falls : waits_for_reload c.counter.channel_state ≡ false → (p : Phase) (late : Bool)
          → PhaseAt p late model (fallen_core (fall_state (gate.stops_on_fall c.control.mode) c.counter.channel_state) (cond raises true c.pins.output))
          → Tracks model (watching (gated (view (core_of c) p o v) false p fallen_output) late one) (core_of (gate.set_gate c false))
      falls acts p late there =
          lands model one v c rules value-is false (fall_state (gate.stops_on_fall c.control.mode) c.counter.channel_state) (cond raises true c.pins.output) p fallen_output late there
          (raised raises o c.pins.output output-is)
          (acting acts)

      count-falls : (late : Bool) → AwaitsCount (core_of c)
          → Tracks model (watching (gated (view (core_of c) awaits_count o v) false awaits_count fallen_output) late one) (core_of (gate.set_gate c false))
      count-falls late h =
          lands model one v c rules value-is false c.counter.channel_state c.pins.output awaits_count fallen_output late
          (record { waits = h.waits; none = h.none; is-high = h.is-high })
          (by-raises raises refl)
          (level-core c false (ap waits_for_reload h.waits))
        where
          by-raises : (b : Bool) → raises ≡ b → IsFixed (cond b (fixed_at true) o) c.pins.output
          by-raises true is = h.is-high is
          by-raises false is = output-is

      -- a counter that is lost stays so
      still-come : (b : Bool) (s : ChannelState) → waits_for_reload s ≡ false → waits_for_reload (fall_state b s) ≡ false
      still-come true s has = refl
      still-come false s has = has

      loading-falls : (late : Bool) → Loading late (core_of c) → (b four : Bool) → raises ≡ b → eqb (mode_number c.control.mode) 4 ≡ four
          → Tracks model
          (watching (gated (view (core_of c) loading o v) false (cond b awaits_trigger (cond four lost loading)) fallen_output) late one)
          (core_of (gate.set_gate c false))
      loading-falls late h true four is mode =
          let acts = waiting-not late c.counter.channel_state c.control.mode h.waits in
          let holds = raised-holds c.control.mode is in
          falls acts awaits_trigger late
          (record {
            waits = inr (ap underway (ap (λ (b : Bool). fall_state b c.counter.channel_state) holds.0), (holds.1, refl));
            complete = h.complete;
          })
      loading-falls late h false true is mode =
          let acts = waiting-not late c.counter.channel_state c.control.mode h.waits in
          falls acts lost late
          (record { complete = h.complete; come = λ other. still-come (gate.stops_on_fall c.control.mode) c.counter.channel_state acts })
      loading-falls late h false false is mode =
          quiet (quiet-fall c.control.mode is mode) loading late (record { waits = h.waits; complete = h.complete })

      -- a count underway
      state-goes : (b : Bool) (s : ChannelState) → goes_on s ≡ true → goes_on (fall_state b s) ≡ true
      state-goes true s goes = refl
      state-goes false s goes = goes

      same-level : (b : Bool) (level : Bool) → b ≡ false → cond b true level ≡ level
      same-level true level none = absurd (true≢false none)
      same-level false level none = refl

      there-fallen : (n j : ℕ) → Standing model (core_of c) n j
          → Standing model (fallen_core (fall_state (gate.stops_on_fall c.control.mode) c.counter.channel_state) (cond raises true c.pins.output)) n j
      there-fallen n j (down d) =
          down
          (record {
            down = d.down;
            has_value = d.has_value;
            goes = state-goes (gate.stops_on_fall c.control.mode) c.counter.channel_state d.goes;
            level = λ ends. same-level raises c.pins.output (down-keeps-level c.control.mode d.down) ∙ d.level ends;
            armed = d.armed;
          })
      there-fallen n j (rate r) =
          paused
          (record {
            repeats = ap does_retrigger r.rate;
            in-period = r.in-period;
            has_value =
                r.has_value
                ∙ ap (λ (m : ChannelMode). held c.control.bcd_mode (value_after (sheet_chip model) c.control.bcd_mode (mode_number m) n j)) (sym r.rate);
            holds = ap underway (ap (λ (m : ChannelMode). fall_state (gate.stops_on_fall m) c.counter.channel_state) r.rate);
            gate-low = refl;
          })
      there-fallen n j (square s) =
          paused
          (record {
            repeats = ap does_retrigger s.square;
            in-period = s.in-period;
            has_value =
                s.has_value
                ∙ ap (held c.control.bcd_mode) (sym (value_there model s.high n j s.age s.stands))
                ∙ ap (λ (m : ChannelMode). held c.control.bcd_mode (value_after (sheet_chip model) c.control.bcd_mode (mode_number m) n j)) (sym s.square);
            holds = ap underway (ap (λ (m : ChannelMode). fall_state (gate.stops_on_fall m) c.counter.channel_state) s.square);
            gate-low = refl;
          })
      there-fallen n j (paused p) = absurd (true≢false (sym high ∙ p.gate-low))

      lost-acts : Lost (core_of c) → (late : Bool) → (c.control.mode ≡ InterruptOnTerminalCount → ⊥)
          → Tracks model (watching (gated (view (core_of c) lost o v) false lost fallen_output) late one) (core_of (gate.set_gate c false))
      lost-acts h late other =
          falls (h.come other) lost late
          (record { complete = h.complete; come = λ o. still-come (gate.stops_on_fall c.control.mode) c.counter.channel_state (h.come other) })

      lost-falls : Lost (core_of c) → (late : Bool) → (m : ChannelMode) → c.control.mode ≡ m
          → Tracks model (watching (gated (view (core_of c) lost o v) false lost fallen_output) late one) (core_of (gate.set_gate c false))
      lost-falls h late InterruptOnTerminalCount mode = quiet (ap gate.stops_on_fall mode) lost late (record { complete = h.complete; come = h.come })
      lost-falls h late HardwareRetriggerableOneShot mode = lost-acts h late (λ z. false≢true (ap is_zero (sym mode ∙ z)))
      lost-falls h late RateGenerator mode = lost-acts h late (λ z. false≢true (ap is_zero (sym mode ∙ z)))
      lost-falls h late SquareWaveGenerator mode = lost-acts h late (λ z. false≢true (ap is_zero (sym mode ∙ z)))
      lost-falls h late SoftwareTriggeredStrobe mode = lost-acts h late (λ z. false≢true (ap is_zero (sym mode ∙ z)))
      lost-falls h late HardwareTriggeredStrobe mode = lost-acts h late (λ z. false≢true (ap is_zero (sym mode ∙ z)))

      trigger-falls : AwaitsTrigger (core_of c) → (late : Bool)
          → Tracks model (watching (gated (view (core_of c) awaits_trigger o v) false awaits_trigger fallen_output) late one) (core_of (gate.set_gate c false))
      trigger-falls h late =
          ⊎_elim
          (λ (waits : (c.counter.channel_state ≡ WaitingForLoadTrigger) × (triggered c.control.mode ≡ true)).
          quiet (started-loads c.control.mode waits.1).1 awaits_trigger late (record { waits = inl waits; complete = h.complete }))
          (λ (held : (underway c.counter.channel_state ≡ true) × ((does_retrigger c.control.mode ≡ true) × (c.pins.gate ≡ false))).
          absurd (true≢false (sym high ∙ held.1.1)))
          h.waits

      pub fall-tracks : (p : Phase) (late : Bool) → PhaseAt p late model (core_of c)
          → Tracks model (gate_step true false (view (core_of c) p o v) late one) (core_of (gate.set_gate c false))
      fall-tracks awaits_count late h = count-falls late h
      fall-tracks awaits_trigger late h = trigger-falls h late
      fall-tracks loading late h = loading-falls late h raises (eqb (mode_number c.control.mode) 4) refl refl
      fall-tracks (counting n j) late h =
          falls (standing-not model (core_of c) n j h.there) (counting n j) late
          (record { complete = h.complete; at_least = h.at_least; at_most = h.at_most; there = there-fallen n j h.there })
      fall-tracks lost late h = lost-falls h late c.control.mode refl
