-- Two functions are equal at every number below a bound where one computed test says so. Assumes nothing.
use Prim.Native.Nat.{ℕ, zero, suc, ◌<◌}
use mathlib.Core.Path.{◌≡◌, subst, sym}
use mathlib.Core.Bool.{Bool, true, false}
use mathlib.Core.Logic.{⊎_elim}
use native.Mathlib.Nat.{le_of_suc-le-suc, not-suc-le-zero, eq-or-lt_of_le}
use lib.Dec.{T, eqb, eqb→eq}

abbrev both : Bool → Bool → Bool
both true b = b
both false b = false

both_first : (a b : Bool) → T (both a b) → T a
both_first true b t = tt
both_first false b t = t

both-second : (a b : Bool) → T (both a b) → T b
both-second true b t = t
both-second false b t = absurd t

-- whether f and g give the same number at each number below the bound
abbrev pub same-below : (ℕ → ℕ) → (ℕ → ℕ) → ℕ → Bool
same-below f g zero = true
same-below f g (suc k) = both (eqb (f k) (g k)) (same-below f g k)

pub equal-below : (f g : ℕ → ℕ) (k : ℕ) → T (same-below f g k) → (n : ℕ) → n < k → f n ≡ g n
equal-below f g zero t n h = absurd (not-suc-le-zero h)
equal-below f g (suc k) t n h =
    ⊎_elim
    (λ (e : n ≡ k). subst (λ (i : ℕ). f i ≡ g i) (sym e) (eqb→eq (f k) (g k) (both_first (eqb (f k) (g k)) (same-below f g k) t)))
    (λ (l : n < k). equal-below f g k (both-second (eqb (f k) (g k)) (same-below f g k) t) n l)
    (eq-or-lt_of_le (le_of_suc-le-suc h))
