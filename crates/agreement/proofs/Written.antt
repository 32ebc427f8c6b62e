-- N1 to N3: the count that 16 bits write, as the counter holds it. Assumes nothing.
use Prim.Native.Nat.{ℕ, ◌<◌, ◌≤◌}
use mathlib.Core.Bool.{Bool, true, false, true≢false, cond}
use mathlib.Core.Path.{◌≡◌, refl, sym, ap, ◌∙◌, subst}
use native.Mathlib.Nat.{mod-eq_of_lt}
use native.Mathlib.Omega.{arith}
use lib.Dec.{eqb, ltb}
use borrow.Author.Tests.{ltb-false, eqb-true, eqb-false}
use Rattle.numbers.specs.Digits.{GoodDigits, weight, packed}
use Rattle.numbers.specs.Radix.{radix_counts}
use Rattle.numbers.proofs.Digits.{tested-good, packed-weight, weight-below}
use Rattle.sheet.specs.Ticking.{held, smallest}
use Rattle.sheet.specs.Counter.{Fixed, left_open, fixed_at}
use Rattle.sheet.specs.CounterTick.{decimal_digits, or_largest, number_written, legal}

-- the bits hold n, which is a count of the radix
pub record Writes (bcd : Bool) (w n : ℕ) : Type 0 where
  pub holds : w ≡ held bcd n
  pub from_one : 1 ≤ n
  pub at_most : n ≤ radix_counts bcd

fixed-is : {A : Type 0} {x y : A} → fixed_at x ≡ fixed_at y → x ≡ y
fixed-is {A} {x} {y} e = ap (λ (f : Fixed A). value-or x f) e
  where
    value-or : A → Fixed A → A
    value-or d left_open = d
    value-or d (fixed_at z) = z

pub open-not : {A : Type 0} {x : A} → left_open ≡ fixed_at x → ⊥
open-not e = true≢false (ap is-open e)
  where
    is-open : {A : Type 0} → Fixed A → Bool
    is-open left_open = true
    is-open (fixed_at z) = false

binary-writes : (w : ℕ) → w < 65536 → (z : Bool) → eqb w 0 ≡ z → Writes false w (cond z 65536 w)
binary-writes w h true e = let q : w ≡ 0 = eqb-true w 0 e in record { holds = omega arith; from_one = omega arith; at_most = omega arith }
binary-writes w h false e = let q : w ≡ 0 → ⊥ = eqb-false w 0 e in record { holds = sym (mod-eq_of_lt h); from_one = omega arith; at_most = omega arith }

decimal-writes : (w : ℕ) → w < 65536 → GoodDigits w → (z : Bool) → eqb (weight w) 0 ≡ z → Writes true w (cond z 10000 (weight w))
decimal-writes w h good true e =
    let q : weight w ≡ 0 = eqb-true (weight w) 0 e in
    record { holds = sym (packed-weight w h good) ∙ ap packed q; from_one = omega arith; at_most = omega arith }
decimal-writes w h good false e =
    let q : weight w ≡ 0 → ⊥ = eqb-false (weight w) 0 e in
    let b : weight w < 10000 = weight-below w good in
    record { holds = sym (packed-weight w h good) ∙ ap packed (sym (mod-eq_of_lt b)); from_one = omega arith; at_most = omega arith }

decimal-number : (w n : ℕ) → w < 65536 → (digits : Bool) → decimal_digits w ≡ digits
    → cond digits (fixed_at (or_largest 10000 (weight w))) left_open ≡ fixed_at n → Writes true w n
decimal-number w n h true digits e =
    subst (Writes true w) (fixed-is e) (decimal-writes w h (tested-good w digits) (eqb (weight w) 0) refl)
decimal-number w n h false digits e = absurd (open-not e)

pub number-writes : (bcd : Bool) (w n : ℕ) → w < 65536 → number_written bcd w ≡ fixed_at n → Writes bcd w n
number-writes false w n h e = subst (Writes false w) (fixed-is e) (binary-writes w h (eqb w 0) refl)
number-writes true w n h e = decimal-number w n h (decimal_digits w) refl e

-- a legal count is not below the smallest
legal-by : (mode m n : ℕ) (small : Bool) → ltb m (smallest mode) ≡ small → cond small left_open (fixed_at m) ≡ fixed_at n
    → (fixed_at m ≡ fixed_at n) × (smallest mode ≤ n)
legal-by mode m n true test e = absurd (open-not e)
legal-by mode m n false test e = (e, subst (λ (x : ℕ). smallest mode ≤ x) (fixed-is e) (ltb-false m (smallest mode) test))

pub legal-number : (mode : ℕ) (x : Fixed ℕ) (n : ℕ) → legal mode x ≡ fixed_at n → (x ≡ fixed_at n) × (smallest mode ≤ n)
legal-number mode left_open n e = absurd (open-not e)
legal-number mode (fixed_at m) n e = legal-by mode m n (ltb m (smallest mode)) refl e
