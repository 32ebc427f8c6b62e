-- The packed digits of numbers one after the other, and the one at a place; and the thousands beside three digits. Assumes nothing.
use Rattle.std.proofs.Common.{◌≡◌, ℕ, zero, suc, ◌+◌, ◌*◌, ◌/◌, ◌%◌, ◌<◌, List, [], ◌∷◌, get_or, sym, ap, ◌∙◌, le_of_suc-le-suc, not-suc-le-zero, add-zero, add-suc, suc-add, arith}
use Rattle.numbers.specs.Digits.{packed}

-- so many of them, from a number on
abbrev packed_from : ℕ → ℕ → List ℕ
packed_from first zero = []
packed_from first (suc n) = packed first ∷ packed_from (suc first) n

from_at : (first n k : ℕ) → k < n → get_or (packed_from first n) k 0 ≡ packed (first + k)
from_at first zero k h = absurd (not-suc-le-zero h)
from_at first (suc n) zero h = ap packed (sym (add-zero first))
from_at first (suc n) (suc k) h = from_at (suc first) n k (le_of_suc-le-suc h) ∙ ap packed (suc-add first k ∙ sym (add-suc first k))

pub packed-at : (first n k v : ℕ) → first + k ≡ v → v < first + n → get_or (packed_from first n) k 0 ≡ packed v
packed-at first n k v at high = from_at first n k (omega arith) ∙ ap packed at

-- one division by ten takes off one digit, and the thousands stay apart
thousands-beside : (a r : ℕ) → a < 10 → r < 1000 → 4096 * a + packed r ≡ packed (1000 * a + r)
unfolding packed
thousands-beside a r ha hr =
    let r1 : (1000 * a + r) % 10 ≡ r % 10 = omega arith in
    let q1 : (1000 * a + r) / 10 ≡ 100 * a + r / 10 = omega arith in
    let r2 : (100 * a + r / 10) % 10 ≡ r / 10 % 10 = omega arith in
    let q2 : (100 * a + r / 10) / 10 ≡ 10 * a + r / 10 / 10 = omega arith in
    let r3 : (10 * a + r / 10 / 10) % 10 ≡ r / 10 / 10 % 10 = omega arith in
    let q3 : (10 * a + r / 10 / 10) / 10 ≡ a = omega arith in
    let r4 : a % 10 ≡ a = omega arith in
    let none : r / 10 / 10 / 10 % 10 ≡ 0 = omega arith in
    simp (r1, q1, r2, q2, r3, q3, r4, none) (omega arith)

pub four-packed : (v : ℕ) → v < 10000 → 4096 * (v / 1000) + packed (v % 1000) ≡ packed v
four-packed v h =
    let parts : 1000 * (v / 1000) + v % 1000 ≡ v = omega arith in
    thousands-beside (v / 1000) (v % 1000) (omega arith) (omega arith) ∙ ap packed parts
