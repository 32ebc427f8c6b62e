-- Bytes that are compared one by one are the same exactly when the lists are. Assumes nothing.
use Prim.Native.Nat.{ℕ}
use mathlib.Core.Bool.{Bool, true, false, not, ◌&&◌, false≢true}
use mathlib.Core.List.{List, [], ◌∷◌}
use mathlib.Core.Path.{◌≡◌, refl, sym, subst}
use mathlib.Core.Logic.{◌↔◌}
use lib.Dec.{eqb}
use borrow.Author.Tests.{eqb-true, eq-eqb}
use Rattle.checkpoint.specs.Check.{same_bytes}

both_true : (a b : Bool) → (a && b) ≡ true → (a ≡ true) × (b ≡ true)
both_true true b e = (refl, e)
both_true false b e = absurd (false≢true e)

pub same-is : (xs ys : List ℕ) → same_bytes xs ys ≡ true → xs ≡ ys
same-is [] [] e = refl
same-is [] (y ∷ ys) e = absurd (false≢true e)
same-is (x ∷ xs) [] e = absurd (false≢true e)
same-is (x ∷ xs) (y ∷ ys) e =
    let both = both_true (eqb x y) (same_bytes xs ys) e in
    let first = eqb-true x y both.0 in
    let rest = same-is xs ys both.1 in
    λ i. first i ∷ rest i

pub same-itself : (xs : List ℕ) → same_bytes xs xs ≡ true
same-itself [] = refl
same-itself (x ∷ xs) = simp (eq-eqb x x refl, same-itself xs)

pub is_same : (xs ys : List ℕ) → xs ≡ ys → same_bytes xs ys ≡ true
is_same xs ys e = subst (λ (zs : List ℕ). same_bytes xs zs ≡ true) e (same-itself xs)

by_both : (r same : Bool) → (r ≡ true → same ≡ true) → (same ≡ true → r ≡ true) → r ≡ same
by_both true same there back = sym (there refl)
by_both false true there back = back refl
by_both false false there back = refl

-- what a comparison answers that is true exactly for equal lists
pub same_by : (r : Bool) (xs ys : List ℕ) → (r ≡ true → xs ≡ ys) → (xs ≡ ys → r ≡ true) → r ≡ same_bytes xs ys
same_by r xs ys there back = by_both r (same_bytes xs ys) (λ e. is_same xs ys (there e)) (λ e. back (same-is xs ys e))

pub not-means : (a : Bool) → (not a ≡ true) ↔ (a ≡ true → ⊥)
not-means true = (λ e. absurd (false≢true e), λ fails. absurd (fails refl))
not-means false = (λ e. λ h. false≢true h, λ fails. refl)

-- they differ exactly when the comparison fails
pub differ-means : (xs ys : List ℕ) → (not (same_bytes xs ys) ≡ true) ↔ (xs ≡ ys → ⊥)
differ-means xs ys =
    let means = not-means (same_bytes xs ys) in
    (λ e same. means.0 e (is_same xs ys same), λ differ. means.1 (λ same. differ (same-is xs ys same)))
