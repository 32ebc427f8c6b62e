-- Whether a record is readable, one byte after the other: one more byte within its limit, one above it, and each of a readable record.
-- Assumes nothing.
use Prim.Native.Nat.{ℕ, zero, suc, ◌+◌, ◌-◌, ◌≤◌, ◌<◌}
use mathlib.Core.Path.{◌≡◌, refl, sym, subst, ◌∙◌}
use mathlib.Core.Bool.{Bool, true, false, cond, true≢false}
use mathlib.Core.List.{List}
use native.Mathlib.Omega.{arith}
use native.Mathlib.Nat.{add-zero, add-suc}
use lib.Dec.{ltb}
use lib.ListN.{get_or}
use borrow.Author.Tests.{lt-ltb, le-ltb, ltb-true, ltb-false}
use Rattle.encoding.specs.Loaded.{limits, readable_to}

pub one_more : (i : ℕ) (bytes : List ℕ) → get_or bytes i 0 ≤ get_or limits i 0 → readable_to i bytes ≡ true → readable_to (suc i) bytes ≡ true
unfolding readable_to
one_more i bytes h e = simp (le-ltb _ _ h, e)

still_false : (above : Bool) {rest : Bool} → rest ≡ false → cond above false rest ≡ false
still_false true e = refl
still_false false e = e

-- d bytes further it is not readable either
no-further : (d i : ℕ) (bytes : List ℕ) → get_or limits i 0 < get_or bytes i 0 → readable_to (suc (i + d)) bytes ≡ false
unfolding readable_to
no-further zero i bytes h = simp (add-zero, lt-ltb (get_or limits i 0) (get_or bytes i 0) h)
no-further (suc d) i bytes h =
    rw add-suc (still_false (ltb (get_or limits (suc (i + d)) 0) (get_or bytes (suc (i + d)) 0)) (no-further d i bytes h))

pub one_above : (n i : ℕ) (bytes : List ℕ) → i < n → get_or limits i 0 < get_or bytes i 0 → readable_to n bytes ≡ false
one_above n i bytes below h =
    subst (λ (m : ℕ). readable_to m bytes ≡ false) (let e : suc (i + (n - suc i)) ≡ n = omega arith in e) (no-further (n - suc i) i bytes h)

within_by : (n i : ℕ) (bytes : List ℕ) (above : Bool) → ltb (get_or limits i 0) (get_or bytes i 0) ≡ above → i < n → readable_to n bytes ≡ true
    → get_or bytes i 0 ≤ get_or limits i 0
within_by n i bytes true e below all = absurd (true≢false (sym all ∙ one_above n i bytes below (ltb-true _ _ e)))
within_by n i bytes false e below all = ltb-false _ _ e

pub within : (n i : ℕ) (bytes : List ℕ) → i < n → readable_to n bytes ≡ true → get_or bytes i 0 ≤ get_or limits i 0
within n i bytes = within_by n i bytes (ltb (get_or limits i 0) (get_or bytes i 0)) refl
