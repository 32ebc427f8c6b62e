-- Levels and ticks leave what is written to the sheets' counter: its control word, its count, and the level that was set last. Assumes nothing.
use Prim.Native.Nat.{ℕ, suc}
use mathlib.Core.Bool.{Bool, true, false, cond, ◌&&◌}
use mathlib.Core.List.{List, [], ◌∷◌}
use mathlib.Core.Path.{◌≡◌, refl, ap, ◌∙◌}
use Rattle.sheet.specs.ControlByte.{Access}
use Rattle.sheet.specs.Ticking.{Chip}
use Rattle.sheet.specs.Counter.{Fixed, left_open, fixed_at, Phase, awaits_count, awaits_trigger, loading, counting, lost, Counter, standing}
use Rattle.sheet.specs.CounterTick.{to_load, at, load_half, load, begins_low, reloads, count_to, rest, counts}
use Rattle.agreement.specs.Watching.{Watch, watching, never_loads, load_tick, tick_late, watch_tick, watch_gate}
use Rattle.waveform.specs.Pins.{Pulse, gate_at, clock, pulsed, last_level}

-- the same counter at another place
pub record Moved (k new : Counter) : Type 0 where
  pub phase : Phase
  pub output : Fixed Bool
  pub value : Fixed ℕ
  pub is : new ≡ standing k phase output value

moved-either : (b : Bool) (k x y : Counter) → Moved k x → Moved k y → Moved k (cond b x y)
moved-either true k x y a b = a
moved-either false k x y a b = b

moved-load : (chip : Chip) (low : Bool) (k : Counter) (x : Fixed ℕ) → Moved k (load_half chip low x k)
moved-load chip low k left_open = record { phase = lost; output = left_open; value = left_open; is = refl }
moved-load chip low k (fixed_at n) = record { phase = _; output = _; value = _; is = refl }

moved-rest : (k : Counter) → Moved k (rest k)
moved-rest k = record { phase = _; output = _; value = _; is = refl }

moved-count : (chip : Chip) (n j : ℕ) (k : Counter) → Moved k (count_to chip n j k)
moved-count chip n j k =
    moved-either (reloads k.mode n j) k (load chip (begins_low k.mode n j) k) (at chip k n j) (moved-load chip (begins_low k.mode n j) k (to_load k))
    (record { phase = _; output = _; value = _; is = refl })

module _ (chip : Chip) (access : Access) (mode : ℕ) (bcd : Bool) (first count : Fixed ℕ) (one : Fixed Bool) where
  abbrev pub counter : Bool → Phase → Fixed Bool → Fixed ℕ → Counter
  counter gate p o v =
      record { access = access; mode = mode; bcd = bcd; first = first; count = count; gate = gate; phase = p; output = o; value = v }

  moved-tick : (late gate : Bool) (p : Phase) (o : Fixed Bool) (v : Fixed ℕ) → Moved (counter gate p o v) (tick_late p late chip (counter gate p o v))
  moved-tick late gate awaits_count o v = moved-rest (counter gate awaits_count o v)
  moved-tick late gate awaits_trigger o v = moved-rest (counter gate awaits_trigger o v)
  moved-tick late gate loading o v =
      let k = counter gate loading o v in
      moved-either late k (rest k) (load_tick chip k) (moved-rest k)
      (moved-either (never_loads k) k (standing k loading (fixed_at true) k.value) (load chip false k)
      (record { phase = _; output = _; value = _; is = refl }) (moved-load chip false k (to_load k)))
  moved-tick late gate (counting n j) o v =
      let k = counter gate (counting n j) o v in
      moved-either (counts k && (reloads mode n (suc j) && never_loads k)) k (standing k loading (fixed_at true) left_open) (cond (counts k) (count_to chip n (suc j) k) (rest k))
      (record { phase = _; output = _; value = _; is = refl })
      (moved-either (counts k) k (count_to chip n (suc j) k) (rest k) (moved-count chip n (suc j) k) (moved-rest k))
  moved-tick late gate lost o v = record { phase = lost; output = left_open; value = left_open; is = refl }

  -- a watch of the same counter, with this level at its gate
  pub record Written (gate : Bool) (x : Watch) : Type 0 where
    pub phase : Phase
    pub output : Fixed Bool
    pub value : Fixed ℕ
    pub late : Bool
    pub is : x ≡ watching (counter gate phase output value) late one

  written-tick : (gate : Bool) (x : Watch) → Written gate x → Written gate (watch_tick chip x)
  written-tick gate x h =
      let t = moved-tick h.late gate h.phase h.output h.value in
      record {
        phase = t.phase;
        output = t.output;
        value = t.value;
        late = false;
        is = ap (watch_tick chip) h.is ∙ ap (λ (k : Counter). watching k false one) t.is;
      }

  written-gate : (gate level : Bool) (x : Watch) → Written gate x → Written level (watch_gate x level)
  written-gate true true x h = record { phase = _; output = _; value = _; late = _; is = ap (λ (y : Watch). watch_gate y true) h.is }
  written-gate true false x h = record { phase = _; output = _; value = _; late = _; is = ap (λ (y : Watch). watch_gate y false) h.is }
  written-gate false true x h = record { phase = _; output = _; value = _; late = _; is = ap (λ (y : Watch). watch_gate y true) h.is }
  written-gate false false x h = record { phase = _; output = _; value = _; late = _; is = ap (λ (y : Watch). watch_gate y false) h.is }

  pub written_on : (ps : List Pulse) (gate : Bool) (x : Watch) → Written gate x → Written (last_level gate ps) (pulsed chip x ps)
  written_on [] gate x h = h
  written_on (gate_at level ∷ ps) gate x h = written_on ps level (watch_gate x level) (written-gate gate level x h)
  written_on (clock ∷ ps) gate x h = written_on ps gate (watch_tick chip x) (written-tick gate x h)
