-- The two marks of the modes, 0 and 1: the counter holds one exactly if its value is that, in both radixes. Assumes nothing.
use Prim.Native.Nat.{ℕ, ◌%◌, ◌<◌, ◌≤◌}
use mathlib.Core.Bool.{Bool, true, false}
use mathlib.Core.Path.{◌≡◌, refl, sym, ap, ◌∙◌}
use native.Mathlib.Omega.{arith}
use lib.Dec.{eqb}
use borrow.Author.Tests.{eq-eqb, ne_eqb, eqb-true, eqb-false}
use Rattle.numbers.specs.Digits.{weight, packed}
use Rattle.numbers.specs.Radix.{radix_counts}
use Rattle.numbers.proofs.Digits.{weight-packed}
use Rattle.sheet.specs.Ticking.{held}

-- two tests come out alike if each of the two facts gives the other
pub eqb-as : (v w x y : ℕ) → (v ≡ w → x ≡ y) → (x ≡ y → v ≡ w) → eqb x y ≡ eqb v w
eqb-as v w x y f g = by-test (eqb v w) refl
  where
    by-test : (b : Bool) → eqb v w ≡ b → eqb x y ≡ b
    by-test true e = eq-eqb x y (f (eqb-true v w e))
    by-test false e = ne_eqb x y (λ (q : x ≡ y). eqb-false v w e (g q))

-- the weight of what is held in BCD is the value, but for the largest, which is held as 0
weight-held : (v : ℕ) → weight (held true v) ≡ v % 10000
weight-held v = weight-packed (v % 10000) (omega arith)

only_zero : (bcd : Bool) (v : ℕ) → v < radix_counts bcd → held bcd v ≡ 0 → v ≡ 0
unfolding weight
only_zero false v h e = omega arith
only_zero true v h e = let w : v % 10000 ≡ 0 = sym (weight-held v) ∙ ap weight e in omega arith

only_one : (bcd : Bool) (v : ℕ) → v ≤ radix_counts bcd → held bcd v ≡ 1 → v ≡ 1
unfolding weight
only_one false v h e = omega arith
only_one true v h e = let w : v % 10000 ≡ 1 = sym (weight-held v) ∙ ap weight e in omega arith

zero_held : (bcd : Bool) → held bcd 0 ≡ 0
unfolding packed
zero_held false = refl
zero_held true = refl

one-held : (bcd : Bool) → held bcd 1 ≡ 1
unfolding packed
one-held false = refl
one-held true = refl

pub held-zero : (bcd : Bool) (v : ℕ) → v < radix_counts bcd → eqb (held bcd v) 0 ≡ eqb v 0
held-zero bcd v h = eqb-as v 0 (held bcd v) 0 (λ (z : v ≡ 0). ap (held bcd) z ∙ zero_held bcd) (only_zero bcd v h)

pub held_one : (bcd : Bool) (v : ℕ) → v ≤ radix_counts bcd → eqb (held bcd v) 1 ≡ eqb v 1
held_one bcd v h = eqb-as v 1 (held bcd v) 1 (λ (o : v ≡ 1). ap (held bcd) o ∙ one-held bcd) (only_one bcd v h)
