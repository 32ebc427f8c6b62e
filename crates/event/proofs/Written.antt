-- An event is two bytes at its place, and no other byte changes. Assumes nothing.
use Prim.Native.Nat.{ℕ, zero, suc, ◌+◌, ◌<◌, ◌≤◌}
use mathlib.Core.Bool.{Bool}
use mathlib.Core.List.{List, [], ◌∷◌}
use mathlib.Core.Logic.{⊎_elim}
use mathlib.Core.Path.{◌≡◌, refl, ap}
use native.Mathlib.Numerals.{add-one}
use native.Mathlib.Omega.{arith}
use lib.ListN.{length, set, length-set}
use lib.Seq.{get_or-set_same, get_or-set_other}
use Rattle.numbers.specs.Flags.{flag_number}
use Rattle.event.specs.Event.{event_at}
use Rattle.event.specs.Written.{Written}

-- two stores, one after the other
two-stores : (channel : ℕ) (level : Bool) (bytes : List ℕ) (place : ℕ) → place + 2 ≤ length bytes
    → event_at channel level bytes place ≡ set (set bytes place channel) (suc place) (flag_number level)
two-stores channel level [] place h = absurd (omega arith)
two-stores channel level (x ∷ []) zero h = absurd (omega arith)
two-stores channel level (x ∷ y ∷ bytes) zero h = refl
two-stores channel level (x ∷ bytes) (suc place) h = ap (λ (rest : List ℕ). x ∷ rest) (two-stores channel level bytes place (omega arith))

stores-written : (channel : ℕ) (level : Bool) (bytes : List ℕ) (place : ℕ) → place + 2 ≤ length bytes
    → Written bytes (set (set bytes place channel) (suc place) (flag_number level)) place channel level
stores-written channel level bytes place h =
    let first : List ℕ = set bytes place channel in
    record {
      room = h;
      same_length = simp (length-set, length-set);
      channel-byte = simp (get_or-set_other first (suc place) place (flag_number level) 0 (λ e. absurd (omega arith))) (get_or-set_same bytes place channel 0 (omega arith));
      level-byte = simp add-one (get_or-set_same first (suc place) (flag_number level) 0 (simp length-set (omega arith)));
      others-kept =
          λ i apart.
          let not_first : i ≡ place → ⊥ = λ e. ⊎_elim (λ (l : i < place). absurd (omega arith)) (λ (l : place + 2 ≤ i). absurd (omega arith)) apart in
          let not-second : i ≡ suc place → ⊥ = λ e. ⊎_elim (λ (l : i < place). absurd (omega arith)) (λ (l : place + 2 ≤ i). absurd (omega arith)) apart in
          simp (get_or-set_other first (suc place) i (flag_number level) 0 not-second) (get_or-set_other bytes place i channel 0 not_first);
    }

pub event-written : (channel : ℕ) (level : Bool) (bytes : List ℕ) (place : ℕ) → place + 2 ≤ length bytes
    → Written bytes (event_at channel level bytes place) place channel level
event-written channel level bytes place h = rw (two-stores channel level bytes place h) (stores-written channel level bytes place h)
