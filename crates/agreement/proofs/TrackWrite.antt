-- M0 to M5 in step with the sheets' counter: every whole count written. Assumes nothing.
use Prim.Native.Nat.{ℕ, suc, ◌-◌, ◌%◌, ◌<◌, ◌≤◌}
use mathlib.Core.Bool.{Bool, true, false, true≢false, false≢true, not, cond, ◌&&◌}
use mathlib.Core.Logic.{inl, ⊎_elim}
use mathlib.Core.Path.{◌≡◌, refl, sym, ap, ap₂, ◌∙◌, subst}
use native.Mathlib.Nat.{mod-eq_of_lt}
use native.Mathlib.Omega.{arith}
use lib.Dec.{eqb, ltb}
use borrow.Author.Tests.{eq-eqb, ne_eqb, eqb-true, eqb-false, ltb-true, ltb-false}
use Rattle.numbers.specs.Radix.{radix_counts}
use Rattle.channel.specs.declared.Channel.{Channel}
use Rattle.channel.specs.declared.ChannelMode.{ChannelMode}
use Rattle.channel.specs.declared.ChannelMode.TheVariants.{InterruptOnTerminalCount, HardwareRetriggerableOneShot, RateGenerator, SquareWaveGenerator, SoftwareTriggeredStrobe, HardwareTriggeredStrobe}
use Rattle.channel.specs.declared.ChannelState.{ChannelState}
use Rattle.channel.specs.declared.ChannelState.TheVariants.{WaitingForLoadTrigger, Counting}
use Rattle.channel.specs.declared.LoadState.{LoadState}
use Rattle.channel.specs.declared.LoadState.TheVariants.{WaitingForMsb}
use Rattle.channel.specs.declared.LoadType.{LoadType}
use Rattle.channel.specs.declared.LoadType.TheVariants.{InitialLoad, SubsequentLoad}
use Rattle.channel.specs.declared.PitType.{PitType}
use Rattle.channel.specs.declared.PitType.TheVariants.{Model8254}
use Rattle.channel.specs.declared.RwMode.TheVariants.{LsbMsb}
use Rattle.channel.specs.Modes.{mode_number}
use Rattle.channel.specs.Queries.{does_retrigger}
use Rattle.channel.specs.Shared.{change_channel_state}
use Rattle.load.specs.Finalize.{waiting_state, first_state, loads_again, armed_by, complete_load, finalize_load}
use Rattle.load.specs.Write.{put_register}
use Rattle.tick.specs.Due.{triggered}
use Rattle.sheet.specs.Ticking.{Chip, chip8254, held, high_ticks, square_high, value_after}
use Rattle.sheet.specs.Counter.{Fixed, Phase, awaits_count, awaits_trigger, loading, counting, lost}
use Rattle.agreement.specs.Gating.{underway}
use Rattle.agreement.specs.Words.{sheet_chip}
use Rattle.agreement.specs.Watching.{watching, is_first, is_known, first_phase, disturbs, other_half, count_phase, makes_due, puts_off, IsFixed, HoldsValue}
use Rattle.agreement.proofs.CountsDown.{counts_down}
use Rattle.agreement.proofs.Departures.{first_plain, waits-so, first-come, four-tests, FiveStarts, by-trigger, at_once, either, five-tests, no-disturb, alike-by, disturbed-facts, and-true}
use Rattle.agreement.proofs.Square.{flag_of}
use Rattle.agreement.proofs.SquareOther.{high-stands, longer-stands, shorter-stands, longer-value, shorter-value}
use Rattle.agreement.proofs.SquarePlace.{place as place_in, Stands, high-there}
use Rattle.agreement.proofs.SquareValue.{half_value, loaded_count, waits_at_zero, value-odd}
use Rattle.agreement.proofs.TrackSquare.{value_there}
use Rattle.agreement.proofs.Tracking.{Core, core_of, view, RuleIn, Rules, TriggerAwaited, down, rate, Square, square, paused, Standing, AwaitsTrigger, WaitsIn, Loading, Counts, Lost, PhaseAt, Tracks, tracked}

-- a record with a whole count w written to it, in a state
abbrev pub done : ℕ → LoadState → ChannelState → Core → Core
done w s state c =
    record {
      control = c.control;
      reloading = c.reloading;
      load =
          record {
            count_register = w;
            reload_value = w;
            load_state = s;
            load_type = SubsequentLoad;
            armed = armed_by c.load.load_type c.load.armed;
          };
      state = state;
      element = c.element;
      pins = c.pins;
    }

-- the state that it enters
abbrev pub entered : LoadType → Bool → Core → ChannelState
entered InitialLoad defer c = first_state c.reloading.reload_on_trigger defer
entered SubsequentLoad defer c = cond (loads_again c.control.mode) (waiting_state defer) c.state

module _ (c : Channel) (w : ℕ) (s : LoadState) (defer : Bool) where
  later-core : c.load.load_type ≡ SubsequentLoad → (again : Bool) → loads_again c.control.mode ≡ again
      → core_of (finalize_load (put_register c w s) defer) ≡ done w s (cond again (waiting_state defer) c.counter.channel_state) (core_of c)
  unfolding finalize_load complete_load put_register change_channel_state
  later-core type true again = simp (type, again)
  later-core type false again = simp (type, again)

  first-core : c.load.load_type ≡ InitialLoad
      → core_of (finalize_load (put_register c w s) defer) ≡ done w s (first_state c.reloading.reload_on_trigger defer) (core_of c)
  unfolding finalize_load complete_load put_register change_channel_state
  first-core type = simp type

  pub done-core : (t : LoadType) → c.load.load_type ≡ t → core_of (finalize_load (put_register c w s) defer) ≡ done w s (entered t defer (core_of c)) (core_of c)
  done-core InitialLoad type = first-core type
  done-core SubsequentLoad type = later-core type (loads_again c.control.mode) refl

module _ (model : PitType) (one : Fixed Bool) (v : Fixed ℕ) (late : Bool) (c : Core) (rules : Rules model one c)
    (value-is : HoldsValue v c.control.bcd_mode c.element) (w x : ℕ) (s : LoadState) (defer : Bool) (small : w < 65536) (parity : w % 2 ≡ x % 2)
    (over : c.control.rw_mode ≡ LsbMsb → s ≡ WaitingForMsb → ⊥) (o : Fixed Bool) (output-is : IsFixed o c.pins.output) where
  abbrev chip : Chip
  chip = sheet_chip model

  rules-done : (state : ChannelState) → Rules model one (done w s state c)
  rules-done state =
      record {
        masked = rules.masked;
        one-is = rules.one-is;
        rule-is = rules.rule-is;
        sixteen = λ type. small;
        half = λ both zero waits. absurd (over both waits);
      }

  -- what the watch comes to in the mode m, and that it is so
  abbrev phase_then : ℕ → Phase → Phase
  phase_then m p = count_phase chip defer m one x p

  abbrev late_then : ℕ → Phase → Bool
  late_then m p = cond (makes_due m p) (puts_off defer m p one) late

  abbrev Done : ℕ → Phase → ChannelState → Type 0
  Done m p state = Tracks model (watching (view (done w s state c) (phase_then m p) o v) (late_then m p) one) (done w s state c)

  stays : (m : ℕ) (p : Phase) (state : ChannelState) (q : Phase) → phase_then m p ≡ q → PhaseAt q (late_then m p) model (done w s state c) → Done m p state
  stays m p state q is there =
      subst (λ (r : Phase). Tracks model (watching (view (done w s state c) r o v) (late_then m p) one) (done w s state c)) (sym is)
      (tracked q o v (late_then m p) one refl
      (record { rules = rules-done state; phase-is = there; output-is = output-is; value-is = value-is }))

  -- a load that the next tick makes, or the one after it
  loads-so : (b : Bool) → b ≡ (defer && true) → Loading b (done w s (waiting_state defer) c)
  loads-so b is =
      record {
        waits = subst (λ (d : Bool). WaitsIn d (waiting_state defer) c.control.mode) (sym (is ∙ and-true defer)) (waits-so defer c.control.mode);
        complete = refl;
      }

  -- a count written meanwhile, which enters no state
  still-stands : (n j : ℕ) → c.load.load_type ≡ SubsequentLoad → Standing model c n j
      → ((q : Square model c n j) → 0 < half_value (sheet_chip model) n q.high q.age → waits_at_zero model w q.high ≡ waits_at_zero model n q.high) → Standing model (done w s c.state c) n j
  still-stands n j type (down d) alike =
      down
      (record {
        down = d.down;
        has_value = d.has_value;
        goes = d.goes;
        level = d.level;
        armed = λ strobe. ap (λ (t : LoadType). armed_by t c.load.armed) type ∙ d.armed strobe;
      })
  still-stands n j type (rate r) alike =
      rate (record { rate = r.rate; in-period = r.in-period; has_value = r.has_value; level = r.level; counts = r.counts; gate-high = r.gate-high })
  still-stands n j type (square q) alike =
      square
      (record {
        square = q.square;
        high = q.high;
        age = q.age;
        in-period = q.in-period;
        stands = q.stands;
        has_value = q.has_value;
        level = q.level;
        counts = q.counts;
        gate-high = q.gate-high;
        alike = alike q;
      })
  still-stands n j type (paused q) alike =
      paused (record { repeats = q.repeats; in-period = q.in-period; has_value = q.has_value; holds = q.holds; gate-low = q.gate-low })

  counts-still : (n j : ℕ) → Counts model c n j → ((q : Square model c n j) → 0 < half_value (sheet_chip model) n q.high q.age → waits_at_zero model w q.high ≡ waits_at_zero model n q.high)
      → Counts model (done w s c.state c) n j
  counts-still n j h alike =
      record { complete = refl; at_least = h.at_least; at_most = h.at_most; there = still-stands n j h.complete h.there alike }

  -- the state that the load type enters
  abbrev Entered : ℕ → Phase → Type 0
  Entered m p = Done m p (entered c.load.load_type defer c)

  by-type : (m : ℕ) (p : Phase) (t : LoadType) → c.load.load_type ≡ t → (state : ChannelState) → entered t defer c ≡ state → Done m p state → Entered m p
  by-type m p t type state is there =
      subst (λ (u : LoadType). Done m p (entered u defer c)) (sym type) (subst (Done m p) (sym is) there)

  first-state : (rule : Bool) → c.reloading.reload_on_trigger ≡ rule → entered InitialLoad defer c ≡ first_state rule defer
  first-state rule is = ap (λ (r : Bool). first_state r defer) is

  later-state : (again : Bool) → loads_again c.control.mode ≡ again → entered SubsequentLoad defer c ≡ cond again (waiting_state defer) c.state
  later-state again is = ap (λ (a : Bool). cond a (waiting_state defer) c.state) is

  -- M0: every count is loaded by the next tick
  zero-phase : (p : Phase) → phase_then 0 p ≡ loading
  zero-phase awaits_count = first_plain defer 0 one refl refl
  zero-phase awaits_trigger = refl
  zero-phase loading = refl
  zero-phase (counting n j) = rw (no-disturb chip 0 n j x refl) refl
  zero-phase lost = refl

  zero-mode : (t : LoadType) → c.load.load_type ≡ t → c.control.mode ≡ InterruptOnTerminalCount → (p : Phase) → Entered 0 p
  zero-mode InitialLoad type mode p =
      by-type 0 p InitialLoad type (waiting_state defer) (first-state false (subst (λ (m : ChannelMode). RuleIn m c.reloading.reload_on_trigger) mode rules.rule-is))
      (stays 0 p (waiting_state defer) loading (zero-phase p) (loads-so (late_then 0 p) refl))
  zero-mode SubsequentLoad type mode p =
      by-type 0 p SubsequentLoad type (waiting_state defer) (later-state true (ap loads_again mode))
      (stays 0 p (waiting_state defer) loading (zero-phase p) (loads-so (late_then 0 p) refl))

  -- M4: so is every count there
  four-later : c.load.load_type ≡ SubsequentLoad → c.control.mode ≡ SoftwareTriggeredStrobe → (p : Phase) → is_first p ≡ false → phase_then 4 p ≡ loading → Entered 4 p
  four-later type mode p later is =
      by-type 4 p SubsequentLoad type (waiting_state defer) (later-state true (ap loads_again mode))
      (stays 4 p (waiting_state defer) loading is
      (loads-so (late_then 4 p) (ap (λ (f : Bool). defer && not (f && is_known one true)) later)))

  four-first : c.load.load_type ≡ InitialLoad → c.control.mode ≡ SoftwareTriggeredStrobe → Entered 4 awaits_count
  four-first type mode =
      let state = first_state c.reloading.reload_on_trigger defer in
      by-type 4 awaits_count InitialLoad type state refl
      (⊎_elim
      (λ (fine : (first_phase defer 4 one ≡ loading) × WaitsIn (puts_off defer 4 awaits_count one) state c.control.mode).
      stays 4 awaits_count state loading fine.0 (record { waits = fine.1; complete = refl }))
      (λ (stray : first_phase defer 4 one ≡ lost).
      stays 4 awaits_count state lost stray (record { complete = refl; come = λ other. first-come c.reloading.reload_on_trigger defer }))
      (four-tests one c.reloading.reload_on_trigger defer rules.one-is c.control.mode (ap triggered mode)))

  not-zero : (M : ChannelMode) → c.control.mode ≡ M → eqb (mode_number M) 0 ≡ false → c.control.mode ≡ InterruptOnTerminalCount → ⊥
  not-zero M mode other zero = false≢true (sym other ∙ ap (λ (m : ChannelMode). eqb (mode_number m) 0) (sym mode ∙ zero))

  -- mode 4 awaits no trigger
  four-trigger : c.control.mode ≡ SoftwareTriggeredStrobe → TriggerAwaited c → ⊥
  four-trigger mode =
      ⊎_elim
      (λ (waits : (c.state ≡ WaitingForLoadTrigger) × (triggered c.control.mode ≡ true)). false≢true (sym (ap triggered mode) ∙ waits.1))
      (λ (held : (underway c.state ≡ true) × ((does_retrigger c.control.mode ≡ true) × (c.pins.gate ≡ false))).
      false≢true (sym (ap does_retrigger mode) ∙ held.1.0))

  four-mode : c.control.mode ≡ SoftwareTriggeredStrobe → (p : Phase) → PhaseAt p late model c → Entered 4 p
  four-mode mode awaits_count h = four-first (h.none (not-zero SoftwareTriggeredStrobe mode refl)) mode
  four-mode mode awaits_trigger h = absurd (four-trigger mode h.waits)
  four-mode mode loading h = four-later h.complete mode loading refl refl
  four-mode mode (counting n j) h = four-later h.complete mode (counting n j) refl (rw (no-disturb chip 4 n j x refl) refl)
  four-mode mode lost h = four-later h.complete mode lost refl refl

  -- M1, M2, M3, M5: a count written meanwhile waits; the load type says whether it is the first
  module _ (m : ℕ) (M : ChannelMode) (mode : c.control.mode ≡ M) (again : loads_again M ≡ false) where
    waits_there : (p : Phase) → c.load.load_type ≡ SubsequentLoad → (q : Phase) → phase_then m p ≡ q → PhaseAt q (late_then m p) model (done w s c.state c) → Entered m p
    waits_there p type q is there =
        by-type m p SubsequentLoad type c.state (later-state false (ap loads_again mode ∙ again)) (stays m p c.state q is there)

    first-there : (p : Phase) → c.load.load_type ≡ InitialLoad → (q : Phase) → phase_then m p ≡ q
        → PhaseAt q (late_then m p) model (done w s (first_state c.reloading.reload_on_trigger defer) c) → Entered m p
    first-there p type q is there =
        by-type m p InitialLoad type (first_state c.reloading.reload_on_trigger defer) refl
        (stays m p (first_state c.reloading.reload_on_trigger defer) q is there)

    trigger-there : AwaitsTrigger c → phase_then m awaits_trigger ≡ awaits_trigger → Entered m awaits_trigger
    trigger-there h is = waits_there awaits_trigger h.complete awaits_trigger is (record { waits = h.waits; complete = refl })

    lost-there : Lost c → phase_then m lost ≡ lost → Entered m lost
    lost-there h is = waits_there lost h.complete lost is (record { complete = refl; come = h.come })

  not-square : (M : ChannelMode) → c.control.mode ≡ M → eqb (mode_number M) 3 ≡ false → c.control.mode ≡ SquareWaveGenerator → ⊥
  not-square M mode other is = false≢true (sym other ∙ ap (λ (m : ChannelMode). eqb (mode_number m) 3) (sym mode ∙ is))

  -- a first count of modes 2 and 3, which the next tick loads
  repeats-first : (rule : c.reloading.reload_on_trigger ≡ false) (b : Bool) → b ≡ (defer && true)
      → Loading b (done w s (first_state c.reloading.reload_on_trigger defer) c)
  repeats-first rule b is =
      subst (λ (r : Bool). Loading b (done w s (first_state r defer) c)) (sym rule) (loads-so b is)

  rule-in : (M : ChannelMode) → c.control.mode ≡ M → RuleIn M c.reloading.reload_on_trigger
  rule-in M mode = subst (λ (m : ChannelMode). RuleIn m c.reloading.reload_on_trigger) mode rules.rule-is

  -- M2
  two-mode : c.control.mode ≡ RateGenerator → (p : Phase) → PhaseAt p late model c → Entered 2 p
  two-mode mode awaits_count h =
      first-there 2 RateGenerator mode refl awaits_count (h.none (not-zero RateGenerator mode refl)) loading (first_plain defer 2 one refl refl)
      (repeats-first (rule-in RateGenerator mode) (late_then 2 awaits_count) refl)
  two-mode mode awaits_trigger h = trigger-there 2 RateGenerator mode refl h refl
  two-mode mode loading h = waits_there 2 RateGenerator mode refl loading h.complete loading refl (record { waits = h.waits; complete = refl })
  two-mode mode (counting n j) h =
      waits_there 2 RateGenerator mode refl (counting n j) h.complete (counting n j) (rw (no-disturb chip 2 n j x refl) refl)
      (counts-still n j h (λ q. absurd (not-square RateGenerator mode refl q.square)))
  two-mode mode lost h = lost-there 2 RateGenerator mode refl h refl

  -- M1
  one-mode : c.control.mode ≡ HardwareRetriggerableOneShot → (p : Phase) → PhaseAt p late model c → Entered 1 p
  one-mode mode awaits_count h =
      first-there 1 HardwareRetriggerableOneShot mode refl awaits_count (h.none (not-zero HardwareRetriggerableOneShot mode refl)) awaits_trigger (first_plain defer 1 one refl refl)
      (record { waits = inl (ap (λ (r : Bool). first_state r defer) (rule-in HardwareRetriggerableOneShot mode), ap triggered mode); complete = refl })
  one-mode mode awaits_trigger h = trigger-there 1 HardwareRetriggerableOneShot mode refl h refl
  one-mode mode loading h = waits_there 1 HardwareRetriggerableOneShot mode refl loading h.complete loading refl (record { waits = h.waits; complete = refl })
  one-mode mode (counting n j) h =
      waits_there 1 HardwareRetriggerableOneShot mode refl (counting n j) h.complete (counting n j) (rw (no-disturb chip 1 n j x refl) refl)
      (counts-still n j h (λ q. absurd (not-square HardwareRetriggerableOneShot mode refl q.square)))
  one-mode mode lost h = lost-there 1 HardwareRetriggerableOneShot mode refl h refl

  -- M5, and S5
  five-first : c.control.mode ≡ HardwareTriggeredStrobe → c.load.load_type ≡ InitialLoad → FiveStarts one c.reloading.reload_on_trigger defer → Entered 5 awaits_count
  five-first mode type (by-trigger is rule) =
      first-there 5 HardwareTriggeredStrobe mode refl awaits_count type awaits_trigger is
      (record { waits = inl (ap (λ (r : Bool). first_state r defer) rule, ap triggered mode); complete = refl })
  five-first mode type (at_once is rule) =
      first-there 5 HardwareTriggeredStrobe mode refl awaits_count type loading is (repeats-first rule (late_then 5 awaits_count) refl)
  five-first mode type (either is) =
      first-there 5 HardwareTriggeredStrobe mode refl awaits_count type lost is
      (record { complete = refl; come = λ other. first-come c.reloading.reload_on_trigger defer })

  five-mode : c.control.mode ≡ HardwareTriggeredStrobe → (p : Phase) → PhaseAt p late model c → Entered 5 p
  five-mode mode awaits_count h =
      five-first mode (h.none (not-zero HardwareTriggeredStrobe mode refl)) (five-tests one c.reloading.reload_on_trigger defer rules.one-is)
  five-mode mode awaits_trigger h = trigger-there 5 HardwareTriggeredStrobe mode refl h refl
  five-mode mode loading h = waits_there 5 HardwareTriggeredStrobe mode refl loading h.complete loading refl (record { waits = h.waits; complete = refl })
  five-mode mode (counting n j) h =
      waits_there 5 HardwareTriggeredStrobe mode refl (counting n j) h.complete (counting n j) (rw (no-disturb chip 5 n j x refl) refl)
      (counts-still n j h (λ q. absurd (not-square HardwareTriggeredStrobe mode refl q.square)))
  five-mode mode lost h = lost-there 5 HardwareTriggeredStrobe mode refl h refl

  -- M3, and S4
  module _ (mode : c.control.mode ≡ SquareWaveGenerator) (n j : ℕ) (h : Counts model c n j) where
    calm : disturbs chip 3 n j x ≡ false → Entered 3 (counting n j)
    calm none =
        waits_there 3 SquareWaveGenerator mode refl (counting n j) h.complete (counting n j) (rw none refl)
        (counts-still n j h (λ q some. alike-by model q.high n j w x (high-there q.high n j q.age q.stands) parity none))

    -- the half of another count m, whose values are the same from here on
    module _ (high : square_high n j ≡ true) (m : ℕ) (inside : j < m) (stands : Stands m j true j)
        (same : half_value (sheet_chip model) n true j ≡ half_value (sheet_chip model) m true j)
        (alike : 0 < half_value (sheet_chip model) m true j → waits_at_zero model w true ≡ waits_at_zero model m true) where
      own : (q : Square model c n j) → (q.high ≡ true) × (q.age ≡ j)
      own q =
          let is : q.high ≡ true = sym (high-there q.high n j q.age q.stands) ∙ high in
          let place : j % n ≡ q.age = subst (λ (b : Bool). j % n ≡ place_in b n q.age) is q.stands.in-period in
          (is, sym place ∙ mod-eq_of_lt q.in-period)

      value-here : (q : Square model c n j) → half_value (sheet_chip model) n q.high q.age ≡ half_value (sheet_chip model) m true j
      value-here q = ap₂ (λ (b : Bool) (a : ℕ). half_value (sheet_chip model) n b a) (own q).0 (own q).1 ∙ same

      other-stands : Standing model c n j → Standing model (done w s c.state c) m j
      other-stands (down d) = absurd (false≢true (sym (ap counts_down mode) ∙ d.down))
      other-stands (rate r) = absurd (true≢false (ap is-rate (sym r.rate ∙ mode)))
        where
          is-rate : ChannelMode → Bool
          is-rate k = eqb (mode_number k) 2
      other-stands (square q) =
          square
          (record {
            square = mode;
            high = true;
            age = j;
            in-period = inside;
            stands = stands;
            has_value = q.has_value ∙ ap (held c.control.bcd_mode) (value-here q);
            level = q.level ∙ (own q).0;
            counts = q.counts ∙ ap (λ (e : ℕ). Counting (flag_of e)) (value-here q);
            gate-high = q.gate-high;
            alike = alike;
          })
      other-stands (paused q) =
          paused
          (record {
            repeats = q.repeats;
            in-period = inside;
            has_value =
                q.has_value
                ∙ ap (λ (k : ChannelMode). held c.control.bcd_mode (value_after (sheet_chip model) c.control.bcd_mode (mode_number k) n j)) mode
                ∙ ap (held c.control.bcd_mode)
                (value_there model true n j j (high-stands n j q.in-period high) ∙ same ∙ sym (value_there model true m j j stands))
                ∙ ap (λ (k : ChannelMode). held c.control.bcd_mode (value_after (sheet_chip model) c.control.bcd_mode (mode_number k) m j)) (sym mode);
            holds = q.holds;
            gate-low = q.gate-low;
          })

      lands-at : disturbs chip 3 n j x ≡ true → other_half n j ≡ counting m j → 2 ≤ m → loaded_count model m ≤ radix_counts c.control.bcd_mode
          → Entered 3 (counting n j)
      lands-at some is least most =
          waits_there 3 SquareWaveGenerator mode refl (counting n j) h.complete (counting m j) (rw some is)
          (record { complete = refl; at_least = rw mode least; at_most = rw mode most; there = other-stands h.there })

    -- on the 8254
    module _ (is : model ≡ Model8254) (high : square_high n j ≡ true) (differs : n % 2 ≡ x % 2 → ⊥) (some : disturbs chip 3 n j x ≡ true) where
      least : 2 ≤ n
      least = rw mode at h.at_least

      inside : j < n
      inside = period h.there
        where
          period : Standing model c n j → j < n
          period (down d) = absurd (false≢true (sym (ap counts_down mode) ∙ d.down))
          period (rate r) = r.in-period
          period (square q) = q.in-period
          period (paused q) = q.in-period

      on-8254 : (P : PitType → Type 0) → P Model8254 → P model
      on-8254 P p = subst P (sym is) p

      -- what it loads is what the count loads
      top : (m : ℕ) → m - m % 2 ≡ n - n % 2 → loaded_count model m ≤ radix_counts c.control.bcd_mode
      top m same =
          let most : loaded_count model n ≤ radix_counts c.control.bcd_mode = rw mode at h.at_most in
          on-8254 (λ (k : PitType). loaded_count k m ≤ radix_counts c.control.bcd_mode)
          (subst (λ (e : ℕ). e ≤ radix_counts c.control.bcd_mode) (sym same)
          (subst (λ (k : PitType). loaded_count k n ≤ radix_counts c.control.bcd_mode) is most))

      even-by : n % 2 ≡ 0 → Entered 3 (counting n j)
      even-by even =
          let odd : w % 2 ≡ 1 = omega arith in
          let next : suc n % 2 ≡ 1 = omega arith in
          lands-at high (suc n) (omega (arith, inside)) (longer-stands n j inside high)
          (on-8254 (λ (k : PitType). half_value (sheet_chip k) n true j ≡ half_value (sheet_chip k) (suc n) true j) (longer-value n j even))
          (λ left. on-8254 (λ (k : PitType). waits_at_zero k w true ≡ waits_at_zero k (suc n) true) (eq-eqb (w % 2) 1 odd ∙ sym (eq-eqb (suc n % 2) 1 next)))
          some
          (rw (eq-eqb (n % 2) 0 even) refl)
          (omega (arith, least))
          (top (suc n) (omega arith))

      odd-by : n % 2 ≡ 1 → (more : Bool) → ltb (suc j) (high_ticks n) ≡ more → Entered 3 (counting n j)
      odd-by odd true test =
          let more : suc j < high_ticks n = ltb-true (suc j) (high_ticks n) test in
          let even : w % 2 ≡ 0 = omega arith in
          lands-at high (n - 1) (omega arith) (shorter-stands n j odd more)
          (on-8254 (λ (k : PitType). half_value (sheet_chip k) n true j ≡ half_value (sheet_chip k) (n - 1) true j) (shorter-value n j odd))
          (λ left. on-8254 (λ (k : PitType). waits_at_zero k w true ≡ waits_at_zero k (n - 1) true)
          (ne_eqb (w % 2) 1 (λ q. omega arith) ∙ sym (ne_eqb ((n - 1) % 2) 1 (λ q. omega arith))))
          some
          (rw (ne_eqb (n % 2) 0 (λ q. omega arith), test) refl)
          (omega (arith, least))
          (top (n - 1) (omega arith))
      odd-by odd false test =
          let last : high_ticks n ≤ suc j = ltb-false (suc j) (high_ticks n) test in
          let none : half_value (sheet_chip model) n true j ≡ 0 = on-8254 (λ (k : PitType). half_value (sheet_chip k) n true j ≡ 0) (value-odd chip8254 n true j odd ∙ omega arith) in
          lands-at high n inside (high-stands n j inside high) refl (λ left. absurd (omega arith)) some (rw (ne_eqb (n % 2) 0 (λ q. omega arith), test) refl) least (top n refl)

      disturbed : (even : Bool) → eqb (n % 2) 0 ≡ even → Entered 3 (counting n j)
      disturbed true is-even = even-by (eqb-true (n % 2) 0 is-even)
      disturbed false is_odd =
          let not-even : n % 2 ≡ 0 → ⊥ = eqb-false (n % 2) 0 is_odd in
          odd-by (omega arith) (ltb (suc j) (high_ticks n)) refl

    three-counting : (b : Bool) → disturbs chip 3 n j x ≡ b → Entered 3 (counting n j)
    three-counting true some =
        let facts = disturbed-facts model n j x some in
        disturbed facts.0 facts.1 facts.2 some (eqb (n % 2) 0) refl
    three-counting false none = calm none

  three-mode : c.control.mode ≡ SquareWaveGenerator → (p : Phase) → PhaseAt p late model c → Entered 3 p
  three-mode mode awaits_count h =
      first-there 3 SquareWaveGenerator mode refl awaits_count (h.none (not-zero SquareWaveGenerator mode refl)) loading (first_plain defer 3 one refl refl)
      (repeats-first (rule-in SquareWaveGenerator mode) (late_then 3 awaits_count) refl)
  three-mode mode awaits_trigger h = trigger-there 3 SquareWaveGenerator mode refl h refl
  three-mode mode loading h = waits_there 3 SquareWaveGenerator mode refl loading h.complete loading refl (record { waits = h.waits; complete = refl })
  three-mode mode (counting n j) h = three-counting mode n j h (disturbs chip 3 n j x) refl
  three-mode mode lost h = lost-there 3 SquareWaveGenerator mode refl h refl

  -- every mode
  pub writes-in : (M : ChannelMode) → c.control.mode ≡ M → (p : Phase) → PhaseAt p late model c → Entered (mode_number M) p
  writes-in InterruptOnTerminalCount mode p h = zero-mode c.load.load_type refl mode p
  writes-in HardwareRetriggerableOneShot mode p h = one-mode mode p h
  writes-in RateGenerator mode p h = two-mode mode p h
  writes-in SquareWaveGenerator mode p h = three-mode mode p h
  writes-in SoftwareTriggeredStrobe mode p h = four-mode mode p h
  writes-in HardwareTriggeredStrobe mode p h = five-mode mode p h
