-- The sheets' counter from a load that is due on, the gate as the mode wants it: the ticks before the load, and those after it. Assumes nothing.
use Prim.Native.Nat.{ℕ, zero, suc, ◌+◌, ◌≤◌}
use mathlib.Core.Bool.{Bool, true, false, true≢false, not, cond, ◌&&◌, ◌||◌}
use mathlib.Core.List.{List, [], ◌∷◌}
use mathlib.Core.Path.{◌≡◌, refl, sym, ap, ◌∙◌, subst}
use native.Mathlib.Nat.{zero-add, suc-add}
use lib.Dec.{eqb}
use borrow.Author.Tests.{eqb-true}
use Rattle.numbers.specs.Digits.{weight}
use Rattle.numbers.specs.Times.{times}
use Rattle.channel.specs.declared.ChannelMode.{ChannelMode}
use Rattle.channel.specs.Modes.{mode_number}
use Rattle.channel.specs.Queries.{does_retrigger}
use Rattle.channel.proofs.Modes.{every-mode}
use Rattle.sheet.specs.ControlByte.{Access}
use Rattle.sheet.specs.Gate.{fall_effect}
use Rattle.sheet.specs.Ticking.{Chip, output_after, smallest, value_after}
use Rattle.sheet.specs.Counter.{Fixed, left_open, fixed_at, Phase, awaits_trigger, loading, counting, lost, Counter}
use Rattle.sheet.specs.CounterTick.{number_written, legal, at, load_half, load, reloads, rested, tick}
use Rattle.agreement.specs.Watching.{Watch, watching, never_loads, watch_tick, watch_gate}
use Rattle.waveform.specs.Pins.{Pulse, gate_at, clock, pulsed, clocks_in, last_level, MayMove, Undisturbed}
use Rattle.waveform.proofs.Running.{place_of, next_place, first-place}

-- a load that is due, late or not, and the ticks after it
pub data Stage : Type 0 where
  due : Bool → Stage
  run : ℕ → Stage

abbrev pub next : Stage → Stage
next (due true) = due false
next (due false) = run 0
next (run j) = run (suc j)

-- a step made once more, at its begin
pub times-first : {A : Type 0} (k : ℕ) (f : A → A) (x : A) → times (suc k) f x ≡ times k f (f x)
times-first zero f x = refl
times-first (suc k) f x = ap f (times-first k f x)

pub run-after : (j : ℕ) → times (suc j) next (due false) ≡ run j
run-after zero = refl
run-after (suc j) = ap next (run-after j)

pub late-after : (b : Bool) (j : ℕ) → times (suc (cond b 1 0 + j)) next (due b) ≡ run j
late-after false j = rw (zero-add j) (run-after j)
late-after true j = rw (suc-add 0 j, zero-add j) (times-first (suc j) next (due true) ∙ run-after j)

-- G1, G5: a mode that a low gate does not stop sees nothing of a fall
pub unseen : (m : ChannelMode) → (fall_effect (mode_number m)).stops ≡ false → ((fall_effect (mode_number m)).raises ≡ false) × (eqb (mode_number m) 4 ≡ false)
unseen =
    every-mode (λ (m : ChannelMode). (fall_effect (mode_number m)).stops ≡ false → ((fall_effect (mode_number m)).raises ≡ false) × (eqb (mode_number m) 4 ≡ false))
    (λ s. absurd (true≢false s)) (λ s. (refl, refl)) (λ s. absurd (true≢false s)) (λ s. absurd (true≢false s)) (λ s. absurd (true≢false s)) (λ s. (refl, refl))

-- the level is as the mode wants it, and stays so
abbrev pub Wanted : Bool → Bool → Type 0
Wanted stops gate = (not stops || gate) ≡ true

wanted-on : (stops gate level : Bool) → MayMove stops gate level → Wanted stops gate → Wanted stops level
wanted-on true true true may is = refl
wanted-on true true false may is = absurd (true≢false may)
wanted-on true false true may is = absurd may
wanted-on true false false may is = is
wanted-on false gate level may is = refl

one-named : (bcd : Bool) → number_written bcd 1 ≡ fixed_at 1
unfolding weight
one-named true = refl
one-named false = refl

abbrev is_open : Fixed ℕ → Bool
is_open left_open = true
is_open (fixed_at x) = false

and_none : (a b : Bool) → (a && (b && false)) ≡ false
and_none true true = refl
and_none true false = refl
and_none false b = refl

module _ (chip : Chip) (m : ChannelMode) (bcd : Bool) (one : Fixed Bool) (access : Access) (w n : ℕ)
    (number : legal (mode_number m) (number_written bcd w) ≡ fixed_at n) (least : smallest (mode_number m) ≤ n) where
  abbrev mode : ℕ
  mode = mode_number m

  abbrev stops : Bool
  stops = (fall_effect mode).stops

  abbrev pub counter : Bool → Phase → Fixed Bool → Fixed ℕ → Counter
  counter gate p o v =
      record { access = access; mode = mode; bcd = bcd; first = left_open; count = fixed_at w; gate = gate; phase = p; output = o; value = v }

  abbrev pub running : Bool → ℕ → Counter
  running gate j =
      counter gate (counting n (place_of (does_retrigger m) n j)) (fixed_at (output_after mode n (place_of (does_retrigger m) n j)))
      (fixed_at (value_after chip bcd mode n (place_of (does_retrigger m) n j)))

  -- a watch at a stage
  abbrev pub IsAt : Stage → Bool → Watch → Type 0
  IsAt (due late) gate x = (o : Fixed Bool) × ((v : Fixed ℕ) × (x ≡ watching (counter gate loading o v) late one))
  IsAt (run j) gate x = x ≡ watching (running gate j) false one

  -- S8: it is not a count of 1 in mode 2 or 3
  may_load : (never_loads (counter true loading left_open left_open)) ≡ false
  may_load = loads-in m refl
    where
      other : (k : ℕ) → legal k (fixed_at 1) ≡ left_open → mode_number m ≡ k → (b : Bool) → eqb w 1 ≡ b → eqb w 1 ≡ false
      other k none mode-is true is =
          absurd
          (true≢false
          (ap is_open
          (sym none
          ∙ ap (legal k) (sym (one-named bcd))
          ∙ ap (λ (x : ℕ). legal k (number_written bcd x)) (sym (eqb-true w 1 is))
          ∙ ap (λ (x : ℕ). legal x (number_written bcd w)) (sym mode-is)
          ∙ number)))
      other k none mode-is false is = is

      by-mode : (x : ChannelMode) → ((k : ℕ) → legal k (fixed_at 1) ≡ left_open → mode_number x ≡ k → eqb w 1 ≡ false)
          → ((eqb (mode_number x) 2 || eqb (mode_number x) 3) && eqb w 1) ≡ false
      by-mode =
          every-mode (λ (x : ChannelMode). ((k : ℕ) → legal k (fixed_at 1) ≡ left_open → mode_number x ≡ k → eqb w 1 ≡ false)
          → ((eqb (mode_number x) 2 || eqb (mode_number x) 3) && eqb w 1) ≡ false)
          (λ f. refl) (λ f. refl) (λ f. f 2 refl refl) (λ f. f 3 refl refl) (λ f. refl) (λ f. refl)

      loads-in : (x : ChannelMode) → m ≡ x → ((eqb (mode_number m) 2 || eqb (mode_number m) 3) && eqb w 1) ≡ false
      loads-in x is = rw is (by-mode x (λ k none e. other k none (ap mode_number is ∙ e) (eqb w 1) refl))

  loads-now : (gate : Bool) (o : Fixed Bool) (v : Fixed ℕ) → watch_tick chip (watching (counter gate loading o v) false one) ≡ watching (running gate 0) false one
  loads-now gate o v =
      ap (λ (b : Bool). watching (cond b (counter gate loading (fixed_at true) v) (load chip false (counter gate loading o v))) false one) may_load
      ∙ ap (λ (x : Fixed ℕ). watching (load_half chip false x (counter gate loading o v)) false one) number
      ∙ ap (λ (j : ℕ). watching (at chip (counter gate loading o v) n j) false one) (sym (first-place n m))

  tick-stage : (st : Stage) (gate : Bool) → Wanted stops gate → (x : Watch) → IsAt st gate x → IsAt (next st) gate (watch_tick chip x)
  tick-stage (due true) gate runs x is = (rested mode is.0, (is.1.0, ap (watch_tick chip) is.1.1))
  tick-stage (due false) gate runs x is = ap (watch_tick chip) is.1.1 ∙ loads-now gate is.0 is.1.0
  tick-stage (run j) gate runs x is =
      let countsNow = not stops || gate in
      let reloadsNow = reloads mode n (suc (place_of (does_retrigger m) n j)) in
      ap (watch_tick chip) is
      ∙ ap (λ (b : Bool). watching (cond (countsNow && (reloadsNow && b)) (counter gate loading (fixed_at true) left_open) (tick chip (running gate j))) false one) may_load
      ∙ ap (λ (b : Bool). watching (cond b (counter gate loading (fixed_at true) left_open) (tick chip (running gate j))) false one) (and_none countsNow reloadsNow)
      ∙ ap (λ (k : Counter). watching k false one)
      (next_place chip (counter gate loading left_open left_open) n number runs m refl least j)

  fall-due : (late : Bool) (o : Fixed Bool) (v : Fixed ℕ) → stops ≡ false
      → watch_gate (watching (counter true loading o v) late one) false ≡ watching (counter false loading o v) late one
  fall-due late o v none =
      let t = unseen m none in
      ap (λ (b : Bool). watching (counter false (cond b awaits_trigger (cond (eqb mode 4) lost loading)) (cond b (fixed_at true) o) v) late one) t.0
      ∙ ap (λ (b : Bool). watching (counter false (cond b lost loading) o v) late one) t.1

  fall-running : (j : ℕ) → stops ≡ false → watch_gate (watching (running true j) false one) false ≡ watching (running false j) false one
  fall-running j none =
      ap
      (λ (b : Bool). watching
      (counter false (counting n (place_of (does_retrigger m) n j)) (cond b (fixed_at true) (fixed_at (output_after mode n (place_of (does_retrigger m) n j))))
      (fixed_at (value_after chip bcd mode n (place_of (does_retrigger m) n j)))) false one)
      (unseen m none).0

  gate-stage : (st : Stage) (gate level : Bool) → MayMove stops gate level → (x : Watch) → IsAt st gate x → IsAt st level (watch_gate x level)
  gate-stage (due late) true true may x is = (is.0, (is.1.0, ap (λ (y : Watch). watch_gate y true) is.1.1))
  gate-stage (due late) true false may x is =
      (is.0, (is.1.0, ap (λ (y : Watch). watch_gate y false) is.1.1 ∙ fall-due late is.0 is.1.0 may))
  gate-stage (due late) false true may x is = absurd may
  gate-stage (due late) false false may x is = (is.0, (is.1.0, ap (λ (y : Watch). watch_gate y false) is.1.1))
  gate-stage (run j) true true may x is = ap (λ (y : Watch). watch_gate y true) is
  gate-stage (run j) true false may x is = ap (λ (y : Watch). watch_gate y false) is ∙ fall-running j may
  gate-stage (run j) false true may x is = absurd may
  gate-stage (run j) false false may x is = ap (λ (y : Watch). watch_gate y false) is

  -- over a list of pulses
  pub stages : (ps : List Pulse) (st : Stage) (gate : Bool) → Wanted stops gate → Undisturbed stops gate ps → (x : Watch) → IsAt st gate x
      → IsAt (times (clocks_in ps) next st) (last_level gate ps) (pulsed chip x ps)
  stages [] st gate runs steady x is = is
  stages (gate_at level ∷ ps) st gate runs steady x is =
      stages ps st level (wanted-on stops gate level steady.0 runs) steady.1 (watch_gate x level) (gate-stage st gate level steady.0 x is)
  stages (clock ∷ ps) st gate runs steady x is =
      subst (λ (s : Stage). IsAt s (last_level gate ps) (pulsed chip (watch_tick chip x) ps)) (sym (times-first (clocks_in ps) next st))
      (stages ps (next st) gate runs steady (watch_tick chip x) (tick-stage st gate runs x is))
