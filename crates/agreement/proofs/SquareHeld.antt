-- What mode 3 reads off a value that the counter holds: its lowest bit, which is odd or even in both radixes, whether it is 0 or 1, and what the load masks of
-- the two chips leave of it. Assumes nothing.
use Prim.Native.Nat.{ℕ, ◌+◌, ◌-◌, ◌/◌, ◌%◌, ◌<◌, ◌≤◌}
use mathlib.Core.Bool.{Bool, true, false}
use mathlib.Core.Path.{◌≡◌, ap, sym, ◌∙◌}
use native.Mathlib.Nat.{mod-eq_of_lt}
use native.Mathlib.Omega.{arith}
use lib.Bits.{bit_and, and_mask, and_high}
use Rattle.numbers.specs.Digits.{weight, packed}
use Rattle.numbers.specs.Radix.{radix_counts}
use Rattle.numbers.proofs.Digits.{weight-packed, packed-below}
use Rattle.sheet.specs.Ticking.{held}

-- the ones digit has the number's lowest bit
packed-parity : (v : ℕ) → packed v % 2 ≡ v % 2
unfolding packed
packed-parity v = omega arith

pub held-parity : (bcd : Bool) (v : ℕ) → held bcd v % 2 ≡ v % 2
held-parity false v = omega arith
held-parity true v = packed-parity (v % 10000) ∙ omega arith

pub held_below : (bcd : Bool) (v : ℕ) → held bcd v < 65536
held_below false v = omega arith
held_below true v = packed-below (v % 10000)

packed_above : (v : ℕ) → v < 10000 → 0 < v → 0 < packed v
unfolding packed
packed_above v h pos = omega arith

-- what is held of a value from 1 on and below the largest is not 0
pub held-above : (bcd : Bool) (v : ℕ) → 0 < v → v < radix_counts bcd → 0 < held bcd v
held-above false v pos h = omega arith
held-above true v pos h = packed_above (v % 10000) (omega arith) (omega arith)

packed-not-one : (v : ℕ) → v < 10000 → (v ≡ 1 → ⊥) → packed v ≡ 1 → ⊥
unfolding weight
packed-not-one v h n e = n (sym (weight-packed v h) ∙ ap weight e)

-- a count from 2 on is not held as 1
pub held-not-one : (bcd : Bool) (n : ℕ) → 2 ≤ n → n ≤ radix_counts bcd → held bcd n ≡ 1 → ⊥
held-not-one false n low high e = omega arith
held-not-one true n low high e = packed-not-one (n % 10000) (omega arith) (omega arith) e

-- the mask 0xFFFF leaves a held value whole
pub whole-mask : (bcd : Bool) (n : ℕ) → bit_and (held bcd n) 0xFFFF ≡ held bcd n
whole-mask bcd n = and_mask (held bcd n) 16 ∙ mod-eq_of_lt (held_below bcd n)

-- the mask 0xFFFE clears the lowest bit ..
even-mask : (e : ℕ) → e < 65536 → bit_and e 0xFFFE ≡ e - e % 2
even-mask e h = and_high e 15 1 ∙ omega arith

taken-low : (x rest y : ℕ) → y ≤ x → x + rest - y ≡ x - y + rest
taken-low x rest y h = omega arith

packed-even : (v : ℕ) → packed v - packed v % 2 ≡ packed (v - v % 2)
unfolding packed
packed-even v =
    let q : (v - v % 2) / 10 ≡ v / 10 = omega arith in
    let r : (v - v % 2) % 10 ≡ v % 10 - v % 2 = omega arith in
    ap (λ (x : ℕ). packed v - x) (packed-parity v) ∙ rw (q, r) (taken-low (v % 10) _ (v % 2) (omega arith))

-- .. and so takes an odd count to the even one below it
pub odd-mask : (bcd : Bool) (n : ℕ) → bit_and (held bcd n) 0xFFFE ≡ held bcd (n - n % 2)
odd-mask false n =
    let e : n % 65536 % 2 ≡ n % 2 = omega arith in
    let r : n % 65536 - n % 2 ≡ (n - n % 2) % 65536 = omega arith in
    even-mask (n % 65536) (omega arith) ∙ rw e r
odd-mask true n =
    let e : n % 10000 % 2 ≡ n % 2 = omega arith in
    let r : n % 10000 - n % 2 ≡ (n - n % 2) % 10000 = omega arith in
    even-mask (packed (n % 10000)) (packed-below (n % 10000)) ∙ packed-even (n % 10000) ∙ ap packed (rw e r)
