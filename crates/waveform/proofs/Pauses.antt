-- The sheets' counter while its gate moves: in modes 0 and 4 it counts the ticks made with the gate high; in modes 2 and 3 a fall holds it with its output high.
-- Assumes nothing.
use Prim.Native.Nat.{ℕ, suc, ◌<◌}
use mathlib.Core.Bool.{Bool, true, false, not, cond, ◌&&◌, ◌||◌}
use mathlib.Core.List.{List, [], ◌∷◌}
use mathlib.Core.Logic.{◌⊎◌, ⊎_elim}
use mathlib.Core.Path.{◌≡◌, refl, sym, ap, ◌∙◌, subst}
use native.Mathlib.Omega.{arith}
use borrow.Author.Tests.{ne_eqb}
use Rattle.channel.specs.declared.ChannelMode.{ChannelMode}
use Rattle.channel.specs.Modes.{mode_number}
use Rattle.channel.proofs.Modes.{every-mode}
use Rattle.channel.proofs.Pick.{pick_same}
use Rattle.sheet.specs.ControlByte.{Access}
use Rattle.sheet.specs.Gate.{fall_effect}
use Rattle.sheet.specs.Ticking.{Chip, down_value, value_after, output_after}
use Rattle.sheet.specs.Counter.{Fixed, left_open, fixed_at, loading, counting, Counter}
use Rattle.sheet.specs.CounterTick.{pulse, reloads, count_to, rest}
use Rattle.agreement.specs.Watching.{Watch, watching, never_loads, watch_tick, watch_gate}
use Rattle.waveform.specs.Pin.{paused_output}
use Rattle.waveform.specs.Pins.{Pulse, gate_at, clock, pulsed, last_level, Undisturbed, high_clocks, last_counted}
use Rattle.waveform.proofs.Written.{counter}

module _ (chip : Chip) (access : Access) (bcd : Bool) (first : Fixed ℕ) (w : ℕ) (one : Fixed Bool) (n : ℕ) where
  -- a counter of mode 0 or 4 with r ticks counted
  abbrev pub paused : ℕ → Bool → ℕ → Bool → Counter
  paused mode gate r counted =
      counter chip access mode bcd first (fixed_at w) one gate (counting n r) (fixed_at (paused_output mode n r counted)) (fixed_at (down_value bcd n r))

  -- one pulse in a mode
  abbrev Ticks : ℕ → Type 0
  Ticks mode = (gate : Bool) (late : Bool) (r : ℕ) (counted : Bool)
      → watch_tick chip (watching (paused mode gate r counted) late one) ≡ watching (paused mode gate (cond gate (suc r) r) gate) false one

  abbrev Gates : ℕ → Type 0
  Gates mode = (gate level : Bool) (late : Bool) (r : ℕ) (counted : Bool)
      → watch_gate (watching (paused mode gate r counted) late one) level ≡ watching (paused mode level r counted) late one

  zero-tick : Ticks 0
  zero-tick true late r counted = refl
  zero-tick false late r counted = refl

  four-tick : Ticks 4
  four-tick true late r counted = refl
  four-tick false late r counted = refl

  zero-gate : Gates 0
  zero-gate true true late r counted = refl
  zero-gate true false late r counted = refl
  zero-gate false true late r counted = refl
  zero-gate false false late r counted = refl

  four-gate : Gates 4
  four-gate true true late r counted = refl
  four-gate true false late r counted = refl
  four-gate false true late r counted = refl
  four-gate false false late r counted = refl

  -- any number of them
  abbrev pub Pauses : ℕ → List Pulse → Bool → Bool → ℕ → Bool → Type 0
  Pauses mode ps gate late r counted =
      (late' : Bool)
      × (pulsed chip (watching (paused mode gate r counted) late one) ps
      ≡ watching (paused mode (last_level gate ps) (high_clocks gate r ps) (last_counted gate counted ps)) late' one)

  pauses-by : (mode : ℕ) → Ticks mode → Gates mode → (ps : List Pulse) (gate late : Bool) (r : ℕ) (counted : Bool) → Pauses mode ps gate late r counted
  pauses-by mode on-tick on-gate [] gate late r counted = (late, refl)
  pauses-by mode on-tick on-gate (gate_at level ∷ ps) gate late r counted =
      let t = pauses-by mode on-tick on-gate ps level late r counted in
      (t.0, ap (λ (x : Watch). pulsed chip x ps) (on-gate gate level late r counted) ∙ t.1)
  pauses-by mode on-tick on-gate (clock ∷ ps) gate late r counted =
      let t = pauses-by mode on-tick on-gate ps gate false (cond gate (suc r) r) gate in
      (t.0, ap (λ (x : Watch). pulsed chip x ps) (on-tick gate late r counted) ∙ t.1)

  pub either-pauses : (mode : ℕ) → (mode ≡ 0) ⊎ (mode ≡ 4) → (ps : List Pulse) (gate late : Bool) (r : ℕ) (counted : Bool) → Pauses mode ps gate late r counted
  either-pauses mode modes ps gate late r counted =
      ⊎_elim
      (λ (is : mode ≡ 0). subst (λ (k : ℕ). Pauses k ps gate late r counted) (sym is) (pauses-by 0 zero-tick zero-gate ps gate late r counted))
      (λ (is : mode ≡ 4). subst (λ (k : ℕ). Pauses k ps gate late r counted) (sym is) (pauses-by 4 four-tick four-gate ps gate late r counted))
      modes

-- with the load itself no tick is counted, and there is no strobe
pub load-output : (n : ℕ) → 0 < n → (mode : ℕ) → (mode ≡ 0) ⊎ (mode ≡ 4) → output_after mode n 0 ≡ paused_output mode n 0 false
load-output n pos mode =
    ⊎_elim
    (λ (is : mode ≡ 0). subst (λ (k : ℕ). output_after k n 0 ≡ paused_output k n 0 false) (sym is) refl)
    (λ (is : mode ≡ 4). subst (λ (k : ℕ). output_after k n 0 ≡ paused_output k n 0 false) (sym is) (ap not (ne_eqb 0 n (λ q. omega arith))))

pub load-value : (chip : Chip) (bcd : Bool) (n mode : ℕ) → (mode ≡ 0) ⊎ (mode ≡ 4) → value_after chip bcd mode n 0 ≡ down_value bcd n 0
load-value chip bcd n mode =
    ⊎_elim
    (λ (is : mode ≡ 0). subst (λ (k : ℕ). value_after chip bcd k n 0 ≡ down_value bcd n 0) (sym is) refl)
    (λ (is : mode ≡ 4). subst (λ (k : ℕ). value_after chip bcd k n 0 ≡ down_value bcd n 0) (sym is) refl)

-- G2, G3
pub raises-stops : (m : ChannelMode) → (fall_effect (mode_number m)).raises ≡ true → (fall_effect (mode_number m)).stops ≡ true
raises-stops =
    every-mode (λ (m : ChannelMode). (fall_effect (mode_number m)).raises ≡ true → (fall_effect (mode_number m)).stops ≡ true)
    (λ r. refl) (λ r. r) (λ r. refl) (λ r. refl) (λ r. refl) (λ r. r)

module _ (chip : Chip) (access : Access) (m : ChannelMode) (bcd : Bool) (first count : Fixed ℕ) (one : Fixed Bool) (n p : ℕ) (v : Fixed ℕ)
    (raises : (fall_effect (mode_number m)).raises ≡ true) where
  abbrev mode : ℕ
  mode = mode_number m

  abbrev stays : Bool → Fixed Bool → Counter
  stays gate o = counter chip access mode bcd first count one gate (counting n p) o v

  held-tick : (late : Bool) → watch_tick chip (watching (stays false (fixed_at true)) late one) ≡ watching (stays false (fixed_at true)) false one
  held-tick late =
      ap
      (λ (b : Bool). watching
      (cond ((not b || false) && (reloads mode n (suc p) && never_loads (stays false (fixed_at true)))) (counter chip access mode bcd first count one false loading (fixed_at true) left_open)
      (cond (not b || false) (count_to chip n (suc p) (stays false (fixed_at true))) (rest (stays false (fixed_at true))))) false one)
      (raises-stops m raises)
      ∙ ap (λ (o : Fixed Bool). watching (stays false o) false one) (pick_same (pulse mode) (fixed_at true))

  falls : (late : Bool) (o : Fixed Bool) → watch_gate (watching (stays true o) late one) false ≡ watching (stays false (fixed_at true)) late one
  falls late o = ap (λ (b : Bool). watching (stays false (cond b (fixed_at true) o)) late one) raises

  held_low : (ps : List Pulse) → Undisturbed false false ps → (late : Bool)
      → (late' : Bool) × (pulsed chip (watching (stays false (fixed_at true)) late one) ps ≡ watching (stays false (fixed_at true)) late' one)
  held_low [] quiet late = (late, refl)
  held_low (gate_at true ∷ ps) quiet late = absurd quiet.0
  held_low (gate_at false ∷ ps) quiet late = held_low ps quiet.1 late
  held_low (clock ∷ ps) quiet late =
      let t = held_low ps quiet false in
      (t.0, ap (λ (x : Watch). pulsed chip x ps) (held-tick late) ∙ t.1)

  pub held_by : (ps : List Pulse) → Undisturbed false false ps → (late : Bool) (o : Fixed Bool)
      → (late' : Bool) × (pulsed chip (watching (stays true o) late one) (gate_at false ∷ ps) ≡ watching (stays false (fixed_at true)) late' one)
  held_by ps quiet late o =
      let t = held_low ps quiet late in
      (t.0, ap (λ (x : Watch). pulsed chip x ps) (falls late o) ∙ t.1)
