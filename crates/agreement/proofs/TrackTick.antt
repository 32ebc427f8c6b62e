-- Every tick keeps the channel in step with the sheets' counter. Assumes nothing.
use Prim.Native.Nat.{ℕ, suc, ◌+◌, ◌<◌, ◌≤◌}
use mathlib.Core.Bool.{Bool, true, false, false≢true, not, cond, ◌&&◌, ◌||◌}
use mathlib.Core.Logic.{⊎_elim}
use mathlib.Core.Path.{◌≡◌, refl, sym, ap, ◌∙◌, subst}
use native.Mathlib.Nat.{mod-eq_of_lt}
use native.Mathlib.Omega.{arith}
use lib.Dec.{eqb, ltb}
use borrow.Author.Tests.{eq-eqb, ne_eqb, eqb-true, eqb-false, ltb-true, ltb-false}
use Rattle.numbers.proofs.Digits.{both_true}
use Rattle.channel.specs.declared.Channel.{Channel}
use Rattle.channel.specs.declared.ChannelMode.{ChannelMode}
use Rattle.channel.specs.declared.ChannelMode.TheVariants.{InterruptOnTerminalCount, HardwareRetriggerableOneShot, RateGenerator, SquareWaveGenerator, SoftwareTriggeredStrobe, HardwareTriggeredStrobe}
use Rattle.channel.specs.declared.ChannelState.{ChannelState}
use Rattle.channel.specs.declared.ChannelState.TheVariants.{WaitingForReload, WaitingForGate, DeferLoadCycle, WaitingForLoadCycle, WaitingForLoadTrigger, Counting}
use Rattle.channel.specs.declared.LoadType.TheVariants.{SubsequentLoad}
use Rattle.channel.specs.declared.PitType.{PitType}
use Rattle.channel.specs.Modes.{mode_number}
use Rattle.channel.specs.Queries.{does_retrigger}
use Rattle.channel.specs.Shared.{waits_for_reload}
use Rattle.channel.proofs.Modes.{every-mode}
use Rattle.tick.specs.declared.due.Kind.TheVariants.{Load}
use Rattle.tick.specs.Due.{triggered, runs, due_in, due}
use Rattle.tick.specs.Kept.{TickKeeps}
use Rattle.tick.specs.Level.{rest_level}
use Rattle.tick.specs.Tick.{never_loaded, tick}
use Rattle.tick.proofs.Keeps as kept
use Rattle.sheet.specs.Gate.{fall_effect}
use Rattle.sheet.specs.Ticking.{high_ticks, value_after, output_after, smallest}
use Rattle.sheet.specs.Counter.{Fixed, left_open, fixed_at, Phase, awaits_count, awaits_trigger, loading, counting, lost, Counter, standing}
use Rattle.sheet.specs.CounterTick.{number_written, number_of, to_load, at, load_half, load, begins_low, reloads, count_to, rest, counts}
use Rattle.agreement.specs.Words.{sheet_chip}
use Rattle.agreement.specs.Gating.{underway}
use Rattle.agreement.specs.Watching.{Watch, watching, is_one, never_loads, watch_tick, IsFixed, HoldsValue}
use Rattle.agreement.proofs.CountsDown.{counts_down, every-down}
use Rattle.agreement.proofs.Idling.{state-stands, output-rests}
use Rattle.agreement.proofs.SquarePlace.{half_ticks, Stands}
use Rattle.agreement.proofs.TickLoads.{Sent, load-sent, kept-element}
use Rattle.agreement.proofs.TickWaits.{still-come}
use Rattle.agreement.proofs.TrackDown.{loads-down, counts-down, down_top}
use Rattle.agreement.proofs.TrackRate.{loads-rate, counts-rate, rate-sent, reloads-rate, begins-rate}
use Rattle.agreement.proofs.TrackRest.{rests, put-off, count-rests, trigger-rests, down-counts-rest, paused-counts-rest, trigger-idle, deferred-due, held-idle, goes-idle}
use Rattle.agreement.proofs.TrackSquare.{begin_of, loads-square, counts-square, square-sent, reloads-square}
use Rattle.agreement.proofs.Tracking.{core_of, last_of, view, Rules, Down, down, Rate, rate, Square, square, paused, Standing, Arrived, LoadDue, Loading, Counts, Lost, PhaseAt, Holds, Tracks, not_yet, tracked}
use Rattle.agreement.proofs.Waiting.{reload-idle}
use Rattle.agreement.proofs.Written.{Writes, number-writes, legal-number}

-- what is said of the sheets' counter by mode is said of the record's
counts-runs : (gate : Bool) (m : ChannelMode) → (not (fall_effect (mode_number m)).stops || gate) ≡ (triggered m || gate)
counts-runs gate = every-mode (λ (m : ChannelMode). (not (fall_effect (mode_number m)).stops || gate) ≡ (triggered m || gate)) refl refl refl refl refl refl

-- a count of 1 in modes 2 and 3, on both sides
repeats-named : (m : ChannelMode) → (eqb (mode_number m) 2 || eqb (mode_number m) 3) ≡ does_retrigger m
repeats-named = every-mode (λ (m : ChannelMode). (eqb (mode_number m) 2 || eqb (mode_number m) 3) ≡ does_retrigger m) refl refl refl refl refl refl

never-alike : (c : Channel) → c.load.load_type ≡ SubsequentLoad
    → ((eqb (mode_number c.control.mode) 2 || eqb (mode_number c.control.mode) 3) && is_one (last_of c.load.load_type c.load.reload_value)) ≡ never_loaded c
never-alike c complete = rw (complete, repeats-named c.control.mode) refl

never-reloads : (n j : ℕ) (m : ChannelMode) → counts_down m ≡ true → reloads (mode_number m) n j ≡ false
never-reloads n j = every-down (λ (m : ChannelMode). reloads (mode_number m) n j ≡ false) refl refl refl refl

-- mode 3: the last tick of a half loads, and no other
square-inside : (n j : ℕ) (high : Bool) (s : ℕ) → 2 ≤ n → j < n → Stands n j high s → suc s < half_ticks high n
    → (reloads 3 n (suc j) ≡ false) × (suc j < n)
square-inside n j true s least inside h more =
    let place : j ≡ s = sym (mod-eq_of_lt inside) ∙ h.in-period in
    (simp (ne_eqb (suc j) n (λ q. omega arith), ne_eqb (suc j) (high_ticks n) (λ q. omega arith)), omega arith)
square-inside n j false s least inside h more =
    let place : j ≡ high_ticks n + s = sym (mod-eq_of_lt inside) ∙ h.in-period in
    (simp (ne_eqb (suc j) n (λ q. omega arith), ne_eqb (suc j) (high_ticks n) (λ q. omega arith)), omega arith)

square-last : (n j : ℕ) (high : Bool) (s : ℕ) → 2 ≤ n → j < n → Stands n j high s → suc s ≡ half_ticks high n
    → (reloads 3 n (suc j) ≡ true) × (begins_low 3 n (suc j) ≡ high)
square-last n j true s least inside h last =
    let place : j ≡ s = sym (mod-eq_of_lt inside) ∙ h.in-period in
    (simp (ne_eqb (suc j) n (λ q. omega arith), eq-eqb (suc j) (high_ticks n) (omega arith)), eq-eqb (suc j) (high_ticks n) (omega arith))
square-last n j false s least inside h last =
    let place : j ≡ high_ticks n + s = sym (mod-eq_of_lt inside) ∙ h.in-period in
    (simp (eq-eqb (suc j) n (omega arith)), ne_eqb (suc j) (high_ticks n) (λ q. omega arith))

begin-not : (high : Bool) (m : ℕ) → begin_of (not high) m ≡ cond high (high_ticks m) 0
begin-not true m = refl
begin-not false m = refl

-- a load that is due
due-load : (s : ChannelState) (c : Channel) → LoadDue s c.control.mode → due_in s c ≡ Load
due-load WaitingForReload c waits = absurd waits
due-load WaitingForGate c waits = absurd waits
due-load DeferLoadCycle c waits = absurd waits
due-load WaitingForLoadCycle c waits = refl
due-load WaitingForLoadTrigger c waits = simp waits
due-load (Counting f) c waits = absurd waits

pub load-come : (s : ChannelState) (m : ChannelMode) → LoadDue s m → waits_for_reload s ≡ false
load-come WaitingForReload m waits = absurd waits
load-come WaitingForGate m waits = absurd waits
load-come DeferLoadCycle m waits = absurd waits
load-come WaitingForLoadCycle m waits = refl
load-come WaitingForLoadTrigger m waits = refl
load-come (Counting f) m waits = absurd waits

is-due : (c : Channel) → LoadDue c.counter.channel_state c.control.mode → due c ≡ Load
unfolding due
is-due c waits = due-load c.counter.channel_state c waits

-- modes 2 and 3 do not run with the gate low
low-holds : (c : Channel) → does_retrigger c.control.mode ≡ true → c.pins.gate ≡ false → runs c ≡ false
low-holds c repeats low = rw low (every-mode (λ (m : ChannelMode). does_retrigger m ≡ true → (triggered m || false) ≡ false)
    (λ r. refl) (λ r. absurd (false≢true r)) (λ r. refl) (λ r. refl) (λ r. refl) (λ r. absurd (false≢true r)) c.control.mode repeats)

module _ (model : PitType) (c : Channel) (one : Fixed Bool) (rules : Rules model one (core_of c)) where
  keeps : TickKeeps c (tick model c)
  keeps = kept.tick-keeps model c

  rules-then : Rules model one (core_of (tick model c))
  rules-then =
      record {
        masked = rw (keeps.control-kept, keeps.reloading-kept) rules.masked;
        one-is = rw keeps.reloading-kept rules.one-is;
        rule-is = rw (keeps.control-kept, keeps.reloading-kept) rules.rule-is;
        sixteen = rw (keeps.load-type-kept, keeps.reload-kept) rules.sixteen;
        half =
            rw (keeps.control-kept, keeps.load-state-kept)
            (λ both zero waits.
            let is = rules.half both zero waits in (
              state-stands model c (reload-idle c is.0) 1 ∙ is.0,
              output-rests model c (reload-idle c is.0) 0 ∙ ap (λ (m : ChannelMode). rest_level m c.pins.output) zero ∙ is.1,
            ));
      }

  view_then : (p : Phase) (o : Fixed Bool) (v : Fixed ℕ) → view (core_of (tick model c)) p o v ≡ view (core_of c) p o v
  view_then p o v =
      rw (keeps.control-kept, keeps.load-state-kept, keeps.register-kept, keeps.load-type-kept, keeps.reload-kept, keeps.gate-kept) refl

  settle : (p : Phase) (o : Fixed Bool) (v : Fixed ℕ) (late : Bool) → PhaseAt p late model (core_of (tick model c)) → IsFixed o (tick model c).pins.output
      → HoldsValue v c.control.bcd_mode (tick model c).counter.counting_element
      → Tracks model (watching (view (core_of c) p o v) late one) (core_of (tick model c))
  settle p o v late there output value =
      tracked p o v late one (ap (λ (k : Counter). watching k late one) (sym (view_then p o v)))
      (record { rules = rules-then; phase-is = there; output-is = output; value-is = rw keeps.control-kept value })

  -- a counter that the sheets have lost
  come : c.load.load_type ≡ SubsequentLoad → ((c.control.mode ≡ InterruptOnTerminalCount → ⊥) → waits_for_reload c.counter.channel_state ≡ false)
      → Lost (core_of (tick model c))
  come complete has =
      record {
        complete = keeps.load-type-kept ∙ complete;
        come = λ other. still-come model c (has (λ mode. other (rw keeps.control-kept mode)));
      }

  strays : Lost (core_of (tick model c))
      → Tracks model (watching (view (core_of c) lost left_open left_open) false one) (core_of (tick model c))
  strays there = settle lost left_open left_open false there tt tt

  -- one that they have not
  stands : (n j : ℕ) → Arrived model (tick model c) n j → (p : Phase) (o : Fixed Bool) (v : Fixed ℕ)
      → Tracks model (watching (at (sheet_chip model) (view (core_of c) p o v) n j) false one) (core_of (tick model c))
  stands n j now p o v =
      settle (counting n j) (fixed_at (output_after (mode_number c.control.mode) n j))
      (fixed_at (value_after (sheet_chip model) c.control.bcd_mode (mode_number c.control.mode) n j)) false now.counts
      (rw keeps.control-kept at now.shows-output) (rw keeps.control-kept at now.shows-value)

  -- the count that the next load takes
  module _ (complete : c.load.load_type ≡ SubsequentLoad) where
    taken : (n : ℕ) (p : Phase) (o : Fixed Bool) (v : Fixed ℕ) → to_load (view (core_of c) p o v) ≡ fixed_at n
        → Writes c.control.bcd_mode c.load.reload_value n × (smallest (mode_number c.control.mode) ≤ n)
    taken n p o v is =
        let legal-one = legal-number (mode_number c.control.mode) (number_of c.control.bcd_mode (last_of c.load.load_type c.load.reload_value)) n is in
        let number : number_written c.control.bcd_mode c.load.reload_value ≡ fixed_at n = rw complete at legal-one.0 in
        (number-writes c.control.bcd_mode c.load.reload_value n (rules.sixteen complete) number, legal-one.1)

    -- a load of it, at the begin of a period or of its low half
    load-by : (low : Bool) (p : Phase) (o : Fixed Bool) (v : Fixed ℕ) → waits_for_reload c.counter.channel_state ≡ false
        → ((n : ℕ) → Writes c.control.bcd_mode c.load.reload_value n → smallest (mode_number c.control.mode) ≤ n
        → Arrived model (tick model c) n (cond low (high_ticks n) 0))
        → (x : Fixed ℕ) → to_load (view (core_of c) p o v) ≡ x
        → Tracks model (watching (load_half (sheet_chip model) low x (view (core_of c) p o v)) false one) (core_of (tick model c))
    load-by low p o v has arrives left_open is = strays (come complete (λ other. has))
    load-by low p o v has arrives (fixed_at n) is =
        let t = taken n p o v is in
        stands n (cond low (high_ticks n) 0) (arrives n t.0 t.1) p o v

    loads : (low : Bool) (p : Phase) (o : Fixed Bool) (v : Fixed ℕ) → waits_for_reload c.counter.channel_state ≡ false
        → ((n : ℕ) → Writes c.control.bcd_mode c.load.reload_value n → smallest (mode_number c.control.mode) ≤ n
        → Arrived model (tick model c) n (cond low (high_ticks n) 0))
        → Tracks model (watching (load (sheet_chip model) low (view (core_of c) p o v)) false one) (core_of (tick model c))
    loads low p o v has arrives = load-by low p o v has arrives (to_load (view (core_of c) p o v)) refl

    -- the tick that loads a count, mode by mode
    first_load : (m : ChannelMode) → c.control.mode ≡ m → due c ≡ Load → (n : ℕ) → Writes c.control.bcd_mode c.load.reload_value n
        → smallest (mode_number c.control.mode) ≤ n → Arrived model (tick model c) n 0
    first_load InterruptOnTerminalCount mode is-due n w least = loads-down model c n (ap counts_down mode) complete least w.at_most is-due w.holds
    first_load HardwareRetriggerableOneShot mode is-due n w least = loads-down model c n (ap counts_down mode) complete least w.at_most is-due w.holds
    first_load RateGenerator mode is-due n w least = loads-rate model c mode complete n (rw mode at least) w.at_most is-due w.holds
    first_load SquareWaveGenerator mode is-due n w least =
        loads-square model c mode complete (rules.masked mode) n (rw mode at least) w.at_most is-due w.holds
    first_load SoftwareTriggeredStrobe mode is-due n w least = loads-down model c n (ap counts_down mode) complete least w.at_most is-due w.holds
    first_load HardwareTriggeredStrobe mode is-due n w least = loads-down model c n (ap counts_down mode) complete least w.at_most is-due w.holds

  -- S8: a load that was not made is due
  loads-again : c.load.load_type ≡ SubsequentLoad → Sent (tick model c) → Loading false (core_of (tick model c))
  loads-again complete sent =
      record {
        waits = subst (λ (s : ChannelState). LoadDue s (tick model c).control.mode) (sym sent.waits) tt;
        complete = keeps.load-type-kept ∙ complete;
      }

  -- a tick of a channel that stands at tick j of n
  module _ (n j : ℕ) (o : Fixed Bool) (v : Fixed ℕ) (late : Bool) (h : Counts model (core_of c) n j)
      (holds : Holds model (counting n j) o v late one (core_of c)) where
    abbrev counter : Counter
    counter = view (core_of c) (counting n j) o v

    abbrev Then : Counter → Type 0
    Then k = Tracks model (watching k false one) (core_of (tick model c))

    abbrev on : Counter
    on = count_to (sheet_chip model) n (suc j) counter

    -- what the tick comes to, where it reloads and where it does not
    goes-on : reloads (mode_number c.control.mode) n (suc j) ≡ false → Arrived model (tick model c) n (suc j) → Then on
    goes-on test now =
        subst
        (λ (b : Bool). Then (cond b (load (sheet_chip model) (begins_low (mode_number c.control.mode) n (suc j)) counter) (at (sheet_chip model) counter n (suc j))))
        (sym test)
        (stands n (suc j) now (counting n j) o v)

    turns : (low : Bool) → reloads (mode_number c.control.mode) n (suc j) ≡ true → begins_low (mode_number c.control.mode) n (suc j) ≡ low
        → Then (load (sheet_chip model) low counter) → Then on
    turns low test half now =
        subst
        (λ (b : Bool). Then (cond b (load (sheet_chip model) (begins_low (mode_number c.control.mode) n (suc j)) counter) (at (sheet_chip model) counter n (suc j))))
        (sym test)
        (subst (λ (b : Bool). Then (load (sheet_chip model) b counter)) (sym half) now)

    down-tick : (b : Bool) → runs c ≡ b → Down (core_of c) n j → Then (cond b on (rest counter))
    down-tick true running d =
        goes-on (never-reloads n (suc j) c.control.mode d.down) (counts-down model c n d.down h.complete h.at_least (rw (down_top model n c.control.mode d.down) at h.at_most) j running d)
    down-tick false still d =
        rests model o v one c (counting n j) late holds (goes-idle c d.goes still) (down-counts-rest model (core_of c) n j h d)

    -- mode 2
    rate-tests : (m : ChannelMode) → m ≡ RateGenerator → (k : ℕ) → (reloads (mode_number m) n k ≡ (eqb k n || false)) × (begins_low (mode_number m) n k ≡ false)
    rate-tests m is k = rw is (refl, refl)

    or-false : (b : Bool) → (b || false) ≡ b
    or-false true = refl
    or-false false = refl

    rate-tick : (b : Bool) → eqb (suc j) n ≡ b → Rate (core_of c) n j → Then on
    rate-tick true end r =
        let test = rate-tests c.control.mode r.rate (suc j) in
        let least : 2 ≤ n = rw r.rate at h.at_least in
        turns false (test.0 ∙ or-false (eqb (suc j) n) ∙ end) test.1
        (loads h.complete false (counting n j) o v (ap waits_for_reload r.counts)
        (λ m w from.
        let from-two : 2 ≤ m = rw r.rate at from in
        begins-rate model c r.rate h.complete m from-two w.at_most
        (reloads-rate model c r.rate h.complete n least (rw r.rate at h.at_most) j r (eqb-true (suc j) n end) m from-two w.at_most w.holds)))
    rate-tick false end r =
        let test = rate-tests c.control.mode r.rate (suc j) in
        let least : 2 ≤ n = rw r.rate at h.at_least in
        let inside : j < n = r.in-period in
        let other : suc j ≡ n → ⊥ = eqb-false (suc j) n end in
        goes-on (test.0 ∙ or-false (eqb (suc j) n) ∙ end) (counts-rate model c r.rate h.complete n least (rw r.rate at h.at_most) j r (omega arith))

    -- mode 3
    square-tests : (m : ChannelMode) → m ≡ SquareWaveGenerator → (k : ℕ) → (reloads (mode_number m) n k ≡ reloads 3 n k) × (begins_low (mode_number m) n k ≡ begins_low 3 n k)
    square-tests m is k = rw is (refl, refl)

    square-tick : (s : Square model (core_of c) n j) (b : Bool) → ltb (suc s.age) (half_ticks s.high n) ≡ b → Then on
    square-tick s true more =
        let test = square-tests c.control.mode s.square (suc j) in
        let least : 2 ≤ n = rw s.square at h.at_least in
        let inside : suc s.age < half_ticks s.high n = ltb-true (suc s.age) (half_ticks s.high n) more in
        let fact = square-inside n j s.high s.age least s.in-period s.stands inside in
        goes-on (test.0 ∙ fact.0)
        (counts-square model c s.square h.complete (rules.masked s.square) n least (rw s.square at h.at_most) j s fact.1 inside)
    square-tick s false more =
        let test = square-tests c.control.mode s.square (suc j) in
        let least : 2 ≤ n = rw s.square at h.at_least in
        let in-half : s.age < half_ticks s.high n = s.stands.in-half in
        let last : suc s.age ≡ half_ticks s.high n = omega (arith, ltb-false (suc s.age) (half_ticks s.high n) more) in
        let fact = square-last n j s.high s.age least s.in-period s.stands last in
        turns s.high (test.0 ∙ fact.0) (test.1 ∙ fact.1)
        (loads h.complete s.high (counting n j) o v (ap waits_for_reload s.counts)
        (λ m w from.
        subst (Arrived model (tick model c) m) (begin-not s.high m)
        (reloads-square model c s.square h.complete (rules.masked s.square) n least (rw s.square at h.at_most) j s last m (rw s.square at from) w.at_most w.holds)))

    gate-runs : c.pins.gate ≡ true → runs c ≡ true
    gate-runs high = rw high (either-high (triggered c.control.mode))
      where
        either-high : (b : Bool) → (b || true) ≡ true
        either-high true = refl
        either-high false = refl

    counting-by : Standing model (core_of c) n j → Then (cond (runs c) on (rest counter))
    counting-by (down d) = down-tick (runs c) refl d
    counting-by (rate r) =
        subst (λ (b : Bool). Then (cond b on (rest counter))) (sym (gate-runs r.gate-high)) (rate-tick (eqb (suc j) n) refl r)
    counting-by (square s) =
        subst (λ (b : Bool). Then (cond b on (rest counter))) (sym (gate-runs s.gate-high)) (square-tick s (ltb (suc s.age) (half_ticks s.high n)) refl)
    counting-by (paused p) =
        let still : runs c ≡ false = low-holds c p.repeats p.gate-low in
        subst (λ (b : Bool). Then (cond b on (rest counter))) (sym still)
        (rests model o v one c (counting n j) late holds (held-idle c p.holds still) (paused-counts-rest model (core_of c) n j h p))

    -- S8: the last tick of a period or half, where a count of 1 is written
    sent-by : Standing model (core_of c) n j → never_loaded c ≡ true → runs c ≡ true → reloads (mode_number c.control.mode) n (suc j) ≡ true → Sent (tick model c)
    sent-by (down d) never running again = absurd (false≢true (sym (never-reloads n (suc j) c.control.mode d.down) ∙ again))
    sent-by (rate r) never running again =
        let test = rate-tests c.control.mode r.rate (suc j) in
        let end : eqb (suc j) n ≡ true = sym (or-false (eqb (suc j) n)) ∙ sym test.0 ∙ again in
        rate-sent model c r.rate h.complete n (rw r.rate at h.at_least) (rw r.rate at h.at_most) j r (eqb-true (suc j) n end) never
    sent-by (square s) never running again = ends (ltb (suc s.age) (half_ticks s.high n)) refl
      where
        ends : (b : Bool) → ltb (suc s.age) (half_ticks s.high n) ≡ b → Sent (tick model c)
        ends true more =
            let least : 2 ≤ n = rw s.square at h.at_least in
            let inside : suc s.age < half_ticks s.high n = ltb-true (suc s.age) (half_ticks s.high n) more in
            let fact = square-inside n j s.high s.age least s.in-period s.stands inside in
            absurd (false≢true (sym ((square-tests c.control.mode s.square (suc j)).0 ∙ fact.0) ∙ again))
        ends false more =
            let in-half : s.age < half_ticks s.high n = s.stands.in-half in
            let last : suc s.age ≡ half_ticks s.high n = omega (arith, ltb-false (suc s.age) (half_ticks s.high n) more) in
            square-sent model c s.square h.complete (rules.masked s.square) n (rw s.square at h.at_least) (rw s.square at h.at_most) j s last never
    sent-by (paused p) never running again = absurd (false≢true (sym (low-holds c p.repeats p.gate-low) ∙ running))

    back-or-on : (test : Bool) → (counts counter && (reloads (mode_number c.control.mode) n (suc j) && never_loads counter)) ≡ test
        → Then (cond test (standing counter loading (fixed_at true) left_open) (cond (counts counter) on (rest counter)))
    back-or-on true is =
        let running = both_true (counts counter) _ is in
        let last = both_true (reloads (mode_number c.control.mode) n (suc j)) _ running.1 in
        let sent =
        sent-by h.there (sym (never-alike c h.complete) ∙ last.1) (sym (counts-runs c.pins.gate c.control.mode) ∙ running.0) last.0 in
        settle loading (fixed_at true) left_open false (loads-again h.complete sent) sent.is-high tt
    back-or-on false is =
        subst (λ (b : Bool). Then (cond b on (rest counter))) (sym (counts-runs c.pins.gate c.control.mode)) (counting-by h.there)

    counting-tick : Tracks model (watch_tick (sheet_chip model) (watching counter late one)) (core_of (tick model c))
    counting-tick = back-or-on (counts counter && (reloads (mode_number c.control.mode) n (suc j) && never_loads counter)) refl

  loading-by : (late : Bool) (o : Fixed Bool) (v : Fixed ℕ) → Holds model loading o v late one (core_of c) → Loading late (core_of c)
      → Tracks model (watch_tick (sheet_chip model) (watching (view (core_of c) loading o v) late one)) (core_of (tick model c))
  loading-by true o v holds l =
      put-off model o v one c loading true holds (deferred-due c l.waits) (record { waits = tt; complete = l.complete })
  loading-by false o v holds l = loaded-or-not (never_loads (view (core_of c) loading o v)) refl
    where
      loaded-or-not : (never : Bool) → never_loads (view (core_of c) loading o v) ≡ never
          → Tracks model
          (watching (cond never (standing (view (core_of c) loading o v) loading (fixed_at true) v) (load (sheet_chip model) false (view (core_of c) loading o v))) false one)
          (core_of (tick model c))
      loaded-or-not true is =
          let never : never_loaded c ≡ true = sym (never-alike c l.complete) ∙ is in
          let sent = load-sent model c never (is-due c l.waits) in
          settle loading (fixed_at true) v false (loads-again l.complete sent) sent.is-high
          (subst (HoldsValue v c.control.bcd_mode) (sym (kept-element model c never (is-due c l.waits))) holds.value-is)
      loaded-or-not false is =
          loads l.complete false loading o v (load-come c.counter.channel_state c.control.mode l.waits)
          (first_load l.complete c.control.mode refl (is-due c l.waits))

  phase-ticks : (p : Phase) (o : Fixed Bool) (v : Fixed ℕ) (late : Bool) → Holds model p o v late one (core_of c)
      → Tracks model (watch_tick (sheet_chip model) (watching (view (core_of c) p o v) late one)) (core_of (tick model c))
  phase-ticks awaits_count o v late h =
      rests model o v one c awaits_count late h (reload-idle c h.phase-is.waits) (count-rests (core_of c) h.phase-is)
  phase-ticks awaits_trigger o v late h =
      rests model o v one c awaits_trigger late h
      (⊎_elim
      (λ (waits : (c.counter.channel_state ≡ WaitingForLoadTrigger) × (triggered c.control.mode ≡ true)). trigger-idle c waits.0 waits.1)
      (λ (held : (underway c.counter.channel_state ≡ true) × ((does_retrigger c.control.mode ≡ true) × (c.pins.gate ≡ false))).
      held-idle c held.0 (low-holds c held.1.0 held.1.1))
      h.phase-is.waits)
      (trigger-rests (core_of c) h.phase-is)
  phase-ticks loading o v late h = loading-by late o v h h.phase-is
  phase-ticks (counting n j) o v late h = counting-tick n j o v late h.phase-is h
  phase-ticks lost o v late h = strays (come h.phase-is.complete h.phase-is.come)

pub tick-tracks : (model : PitType) (w : Watch) (c : Channel) → Tracks model w (core_of c) → Tracks model (watch_tick (sheet_chip model) w) (core_of (tick model c))
tick-tracks model w c (not_yet one is rule) =
    let keeps = kept.tick-keeps model c in
    not_yet one (ap (watch_tick (sheet_chip model)) is ∙ rw keeps.gate-kept refl) (rw keeps.reloading-kept rule)
tick-tracks model w c (tracked p o v late one is h) =
    subst (λ (x : Watch). Tracks model (watch_tick (sheet_chip model) x) (core_of (tick model c))) (sym is) (phase-ticks model c one h.rules p o v late h)
