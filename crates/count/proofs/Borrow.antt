-- The borrow row by row, as it ends at the ones, the tens, the hundreds, the thousands or nowhere. Assumes nothing.
use Rattle.std.proofs.Common.{◌≡◌, ℕ, zero, suc, ◌-◌, ◌<◌, ◌≤◌, true, false, cond, eqb, refl, arith, eq-eqb, ne_eqb}
use native.Mathlib.Numerals.{unary_clauses}
use lib.Dec.{eqb-suc-zero}
use Rattle.numbers.specs.Digits.{pack}
use Rattle.numbers.proofs.Digits.{ones-pack, tens-pack, hundreds-pack}
use Rattle.count.specs.declared.digits.Digits.{Digits}
use Rattle.count.specs.Step.{decimal_take, decimal_step}
use Rattle.count.specs.Borrow.{digits_of, one_less}
use Rattle.count.specs.Inner.{FourBits}

abbrev pub digits : ℕ → ℕ → ℕ → ℕ → Digits
digits a b c d = record { thousands = a; hundreds = b; tens = c; ones = d }

-- four digits after a step: the lowest that is not 0 gives one, and each digit below it becomes 9
abbrev pub borrowed : ℕ → ℕ → ℕ → ℕ → Digits
borrowed a b c (suc d) = digits a b c d
borrowed a b (suc c) zero = digits a b c 9
borrowed a (suc b) zero zero = digits a b 9 9
borrowed (suc a) zero zero zero = digits a 9 9 9
borrowed zero zero zero zero = digits 9 9 9 9

pub by_rows : (a b c d : ℕ) → one_less (digits a b c d) ≡ borrowed a b c d
unfolding one_less
by_rows a b c (suc d) = simp (eqb-suc-zero d, unary_clauses)
by_rows a b (suc c) zero = simp (eqb-suc-zero c, unary_clauses)
by_rows a (suc b) zero zero = simp (eqb-suc-zero b, unary_clauses)
by_rows (suc a) zero zero zero = simp (eqb-suc-zero a, unary_clauses)
by_rows zero zero zero zero = refl

-- the two ways that a digit's test can go
pub above_zero : {m : ℕ} (n : ℕ) → m < n → eqb n 0 ≡ false
above_zero n h = ne_eqb n 0 (λ z. omega arith)

pub at_zero : (n : ℕ) → n ≤ 0 → eqb n 0 ≡ true
at_zero n h = eq-eqb n 0 (omega arith)

-- `decimal_step` with its test for 0 answered
pub step-above : (e : ℕ) → (e ≡ 0 → ⊥) → decimal_step e ≡ e - decimal_take e
unfolding decimal_step
step-above e n = simp (ne_eqb e 0 n)

-- `decimal_take` asks the digits in turn, and `pack` says what they are
pub take-pack : (a b c d : ℕ) → a < 16 → b < 16 → c < 16 → d < 16
    → decimal_take (pack a b c d) ≡ cond (eqb d 0) (cond (eqb c 0) (cond (eqb b 0) 0x667 0x67) 0x7) 1
take-pack a b c d ha hb hc hd =
    simp (ones-pack a b c d ha hb hc hd, tens-pack a b c d ha hb hc hd, hundreds-pack a b c d ha hb hc hd)

-- four bits for each digit are enough for what the borrow leaves
bits-borrowed : (a b c d : ℕ) → a < 16 → b < 16 → c < 16 → d < 16 → FourBits (borrowed a b c d)
bits-borrowed a b c (suc d) ha hb hc hd = omega arith
bits-borrowed a b (suc c) zero ha hb hc hd = omega arith
bits-borrowed a (suc b) zero zero ha hb hc hd = omega arith
bits-borrowed (suc a) zero zero zero ha hb hc hd = omega arith
bits-borrowed zero zero zero zero ha hb hc hd = omega arith

module _ (d : Digits) (f : FourBits d) where
  pub less-bits : FourBits (one_less d)
  less-bits =
      rw (by_rows d.thousands d.hundreds d.tens d.ones)
      (bits-borrowed _ _ _ _ f.thousands-bits f.hundreds-bits f.tens-bits f.ones-bits)

pub of-bits : (e : ℕ) → FourBits (digits_of e)
of-bits e = omega arith
