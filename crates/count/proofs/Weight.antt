-- A decimal step and the number that the digits stand for, over all 65,536 starts, digits 10 to 15 too. From anything but 0 a step takes one
-- of that number. Digits 0 to 9 stay so, and from them it takes one mod 10,000. Assumes nothing.
use Rattle.std.proofs.Common.{◌≡◌, ℕ, zero, suc, ◌+◌, ◌*◌, ◌<◌, sym, refl, ◌∙◌, arith}
use Rattle.numbers.specs.Modulo.{minus_mod}
use Rattle.numbers.specs.Digits.{pack, GoodDigits, weight, packed}
use Rattle.numbers.proofs.Digits.{weight-pack, whole, weight-below, packed-weight}
use Rattle.count.specs.Step.{decimal_step}
use Rattle.count.specs.Borrow.{element_of}
use Rattle.count.proofs.Borrow.{borrowed, step-above}
use Rattle.count.proofs.StepByRows.{step-whole}

-- one of a decade is nine of every decade below it, and one more
weight-borrowed : (a b c d : ℕ) → a < 16 → b < 16 → c < 16 → d < 16 → (pack a b c d ≡ 0 → ⊥)
    → weight (element_of (borrowed a b c d)) + 1 ≡ 1000 * a + 100 * b + 10 * c + d
weight-borrowed a b c (suc d) ha hb hc hd n = rw (weight-pack a b c d ha hb hc (omega arith)) (omega arith)
weight-borrowed a b (suc c) zero ha hb hc hd n = rw (weight-pack a b c 9 ha hb (omega arith) (omega arith)) (omega arith)
weight-borrowed a (suc b) zero zero ha hb hc hd n = rw (weight-pack a b 9 9 ha (omega arith) (omega arith) (omega arith)) (omega arith)
weight-borrowed (suc a) zero zero zero ha hb hc hd n =
    rw (weight-pack a 9 9 9 (omega arith) (omega arith) (omega arith) (omega arith)) (omega arith)
weight-borrowed zero zero zero zero ha hb hc hd n = absurd (n refl)

pub weight-step : (e : ℕ) → e < 65536 → (e ≡ 0 → ⊥) → weight (decimal_step e) + 1 ≡ weight e
unfolding weight
weight-step e h n =
    rw (step-whole e h)
    (weight-borrowed _ _ _ _ (omega arith) (omega arith) (omega arith) (omega arith) (λ z. n (sym (whole e h) ∙ z)))

good-borrowed : (a b c d : ℕ) → a < 10 → b < 10 → c < 10 → d < 10 → GoodDigits (element_of (borrowed a b c d))
good-borrowed a b c (suc d) ha hb hc hd = omega arith
good-borrowed a b (suc c) zero ha hb hc hd = omega arith
good-borrowed a (suc b) zero zero ha hb hc hd = omega arith
good-borrowed (suc a) zero zero zero ha hb hc hd = omega arith
good-borrowed zero zero zero zero ha hb hc hd = omega arith

pub good-step : (e : ℕ) → e < 65536 → GoodDigits e → GoodDigits (decimal_step e)
good-step e h g =
    rw (step-whole e h) (good-borrowed _ _ _ _ g.thousands-good g.hundreds-good g.tens-good g.ones-good)

-- a step never goes up but from 0, to 0x9999
pub step-below : (e : ℕ) → e < 65536 → decimal_step e < 65536
step-below zero h = unfold decimal_step in omega arith
step-below (suc e) h = rw (step-above (suc e) (λ z. omega arith)) (omega arith)

-- the step's digits are good and its weight is known, and those two fix a number
pub decimal-one : (e : ℕ) → e < 65536 → GoodDigits e → decimal_step e ≡ packed (minus_mod 10000 (weight e) 1)
decimal-one zero h g = unfold decimal_step weight packed in refl
decimal-one (suc e) h g =
    let s : weight (decimal_step (suc e)) + 1 ≡ weight (suc e) = weight-step (suc e) h (λ z. omega arith) in
    let w : weight (decimal_step (suc e)) ≡ minus_mod 10000 (weight (suc e)) 1 = omega (arith, weight-below (suc e) g) in
    sym (rw w at (packed-weight (decimal_step (suc e)) (step-below (suc e) h) (good-step (suc e) h g)))
