-- Four digits in one number. `pack` and the four digits undo each other; `packed` and `weight` undo each other too, between the numbers below
-- 10,000 and the packed numbers with digits 0 to 9. Assumes nothing.
use Prim.Native.Nat.{ℕ, ◌+◌, ◌*◌, ◌/◌, ◌%◌, ◌<◌}
use mathlib.Core.Bool.{Bool, true, false, false≢true, ◌&&◌}
use mathlib.Core.Path.{◌≡◌, refl, ◌∙◌}
use native.Mathlib.Omega.{arith}
use lib.Dec.{ltb}
use borrow.Author.Tests.{ltb-true}
use Rattle.numbers.specs.Digits.{ones, tens, hundreds, thousands, pack, GoodDigits, good_digits, weight, packed}

-- any four digits of four bits, 10 to 15 too
module _ (a b c d : ℕ) (ha : a < 16) (hb : b < 16) (hc : c < 16) (hd : d < 16) where
  pub ones-pack : ones (pack a b c d) ≡ d
  ones-pack = omega arith

  pub tens-pack : tens (pack a b c d) ≡ c
  tens-pack = omega arith

  pub hundreds-pack : hundreds (pack a b c d) ≡ b
  hundreds-pack = omega arith

  pub thousands-pack : thousands (pack a b c d) ≡ a
  thousands-pack = omega arith

  pub weight-pack : weight (pack a b c d) ≡ 1000 * a + 100 * b + 10 * c + d
  unfolding weight
  weight-pack = simp (ones-pack, tens-pack, hundreds-pack, thousands-pack)

pub whole : (e : ℕ) → e < 65536 → pack (thousands e) (hundreds e) (tens e) (ones e) ≡ e
whole e h = omega arith

pub both_true : (a b : Bool) → (a && b) ≡ true → (a ≡ true) × (b ≡ true)
both_true true b is = (refl, is)
both_true false b is = absurd (false≢true is)

pub tested-good : (e : ℕ) → good_digits e ≡ true → GoodDigits e
tested-good e is =
    let a = both_true _ (ltb (thousands e) 10) is in
    let b = both_true _ (ltb (hundreds e) 10) a.0 in
    let c = both_true (ltb (ones e) 10) (ltb (tens e) 10) b.0 in
    record {
      ones-good = ltb-true _ _ c.0;
      tens-good = ltb-true _ _ c.1;
      hundreds-good = ltb-true _ _ b.1;
      thousands-good = ltb-true _ _ a.1;
    }

pub weight-below : (e : ℕ) → GoodDigits e → weight e < 10000
unfolding weight
weight-below e g = omega arith

-- the decimal digits of a weight are the digits that were weighed: one division by ten takes off one digit
packed-digits : (a b c d : ℕ) → a < 10 → b < 10 → c < 10 → d < 10 → packed (1000 * a + 100 * b + 10 * c + d) ≡ pack a b c d
unfolding packed
packed-digits a b c d ha hb hc hd =
    let r1 : (1000 * a + 100 * b + 10 * c + d) % 10 ≡ d = omega arith in
    let q1 : (1000 * a + 100 * b + 10 * c + d) / 10 ≡ 100 * a + 10 * b + c = omega arith in
    let r2 : (100 * a + 10 * b + c) % 10 ≡ c = omega arith in
    let q2 : (100 * a + 10 * b + c) / 10 ≡ 10 * a + b = omega arith in
    let r3 : (10 * a + b) % 10 ≡ b = omega arith in
    let q3 : (10 * a + b) / 10 ≡ a = omega arith in
    let r4 : a % 10 ≡ a = omega arith in
    simp (r1, q1, r2, q2, r3, q3, r4)

pub packed-weight : (e : ℕ) → e < 65536 → GoodDigits e → packed (weight e) ≡ e
unfolding weight
packed-weight e h g =
    packed-digits _ _ _ _ g.thousands-good g.hundreds-good g.tens-good g.ones-good ∙ whole e h

pub weight-packed : (v : ℕ) → v < 10000 → weight (packed v) ≡ v
unfolding packed
weight-packed v h = weight-pack _ _ _ _ (omega arith) (omega arith) (omega arith) (omega arith) ∙ omega arith

pub good-packed : (v : ℕ) → GoodDigits (packed v)
unfolding packed
good-packed v = omega arith

pub packed-below : (v : ℕ) → packed v < 65536
unfolding packed
packed-below v = omega arith
