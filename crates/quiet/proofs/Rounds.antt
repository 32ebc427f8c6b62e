-- How far from zero a count leaves the element, in either radix and from any 16-bit start: one count nearer, until it is there. Every count flips
-- the lowest bit. Assumes nothing.
use Prim.Native.Nat.{ℕ, zero, suc, ◌+◌, ◌%◌, ◌<◌, ◌≤◌}
use mathlib.Core.Bool.{Bool, true, false, cond}
use mathlib.Core.Path.{◌≡◌, refl}
use native.Mathlib.Omega.{arith}
use lib.Dec.{eqb, eqb-suc-zero}
use borrow.Author.Tests.{ne_eqb, eqb-true, eqb-false}
use Rattle.numbers.specs.Digits.{ones, tens, hundreds, weight}
use Rattle.channel.proofs.Pick.{pick-knowing}
use Rattle.count.specs.Step.{decimal_take, decimal_step, step_in}
use Rattle.count.proofs.Weight.{weight-step, step-below}
use Rattle.quiet.specs.Inner.{counts_to_zero}

pub below_step : (bcd : Bool) (e : ℕ) → e < 65536 → step_in bcd e < 65536
below_step true e h = step-below e h
below_step false e h = omega arith

-- a test for zero, answered
far : (bcd : Bool) (e : ℕ) → (e ≡ 0 → ⊥) → counts_to_zero bcd e ≡ cond bcd (weight e) e
far bcd e n = simp (ne_eqb e 0 n)

weight-none : weight 0 ≡ 0
unfolding weight
weight-none = refl

-- it does not come to zero before its time
pub not_yet : (bcd : Bool) (e : ℕ) → e < 65536 → 1 < counts_to_zero bcd e → step_in bcd e ≡ 0 → ⊥
not_yet true zero h l z = unfold decimal_step in omega arith
not_yet true (suc e) h l z =
    let w : weight (decimal_step (suc e)) ≡ 0 = rw z weight-none in
    omega (arith, weight-step (suc e) h (λ n. omega arith), rw (far true (suc e) (λ n. omega arith)) at l)
not_yet false zero h l z = omega arith
not_yet false (suc e) h l z = omega (arith, rw (far false (suc e) (λ n. omega arith)) at l)

stepped : (bcd : Bool) (e : ℕ) → e < 65536 → (step_in bcd e ≡ 0 → ⊥) → cond bcd (weight (step_in bcd e)) (step_in bcd e) + 1 ≡ counts_to_zero bcd e
stepped true zero h n = unfold decimal_step weight in refl
stepped true (suc e) h n = rw (far true (suc e) (λ z. omega arith)) (weight-step (suc e) h (λ z. omega arith))
stepped false zero h n = refl
stepped false (suc e) h n = rw (far false (suc e) (λ z. omega arith)) (omega arith)

pub nearer : (bcd : Bool) (e : ℕ) → e < 65536 → 1 < counts_to_zero bcd e → counts_to_zero bcd (step_in bcd e) + 1 ≡ counts_to_zero bcd e
nearer bcd e h l =
    let n : step_in bcd e ≡ 0 → ⊥ = not_yet bcd e h l in
    rw (far bcd (step_in bcd e) n) (stepped bcd e h n)

-- what the decimal step takes is odd, and is there to take
abbrev OddIn : ℕ → ℕ → Type 0
OddIn e t = (t ≤ e) × (t % 2 ≡ 1)

taken-fits : (e : ℕ) → (e ≡ 0 → ⊥) → OddIn e (decimal_take e)
taken-fits e n =
    pick-knowing (OddIn e) (eqb (ones e) 0) (cond (eqb (tens e) 0) (cond (eqb (hundreds e) 0) 0x667 0x67) 0x7) 1
    (λ o.
    pick-knowing (OddIn e) (eqb (tens e) 0) (cond (eqb (hundreds e) 0) 0x667 0x67) 0x7
    (λ t.
    pick-knowing (OddIn e) (eqb (hundreds e) 0) 0x667 0x67
    (λ d. (omega (arith, eqb-true), refl))
    (λ d. (omega (arith, eqb-true, eqb-false), refl)))
    (λ t. (omega (arith, eqb-true, eqb-false), refl)))
    (λ o. (omega (arith, eqb-false), refl))

flips : (bcd : Bool) (e : ℕ) → e < 65536 → (step_in bcd e + e) % 2 ≡ 1
flips true zero h = unfold decimal_step in refl
flips true (suc e) h =
    let f : OddIn (suc e) (decimal_take (suc e)) = taken-fits (suc e) (λ z. omega arith) in
    unfold decimal_step in rw (eqb-suc-zero e) (omega arith)
flips false e h = omega arith

pub even-after-two : (bcd : Bool) (e : ℕ) → e < 65536 → step_in bcd (step_in bcd e) % 2 ≡ e % 2
even-after-two bcd e h =
    let x : ℕ = step_in bcd e in
    omega (arith, flips bcd e h, flips bcd x (below_step bcd e h))
