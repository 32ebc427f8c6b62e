-- That the digits' way comes to what document 01 takes, from all 65,536 starts. Assumes nothing.
use Rattle.std.proofs.Common.{◌≡◌, ℕ, zero, suc, ◌<◌, sym, refl, ap, ◌∙◌, arith}
use lib.Dec.{eqb-suc-zero}
use Rattle.numbers.specs.Digits.{ones, tens, hundreds, thousands, pack}
use Rattle.numbers.proofs.Digits.{whole}
use Rattle.count.specs.declared.digits.Digits.{Digits}
use Rattle.count.specs.Step.{decimal_step}
use Rattle.count.specs.Borrow.{digits_of, element_of, one_less}
use Rattle.count.specs.Inner.{FourBits}
use Rattle.count.specs.SameStep.{SameStep}
use Rattle.count.proofs.Borrow.{borrowed, by_rows, step-above, take-pack, of-bits}

-- the one place where the subtraction of 1, 0x7, 0x67 or 0x667 is looked into: the rest goes by the digits
step-pack : (a b c d : ℕ) → a < 16 → b < 16 → c < 16 → d < 16 → decimal_step (pack a b c d) ≡ element_of (borrowed a b c d)
step-pack a b c (suc d) ha hb hc hd =
    step-above _ (λ z. omega arith) ∙ simp (take-pack a b c (suc d) ha hb hc hd, eqb-suc-zero d) (omega arith)
step-pack a b (suc c) zero ha hb hc hd =
    step-above _ (λ z. omega arith) ∙ simp (take-pack a b (suc c) 0 ha hb hc hd, eqb-suc-zero c) (omega arith)
step-pack a (suc b) zero zero ha hb hc hd =
    step-above _ (λ z. omega arith) ∙ simp (take-pack a (suc b) 0 0 ha hb hc hd, eqb-suc-zero b) (omega arith)
step-pack (suc a) zero zero zero ha hb hc hd =
    step-above _ (λ z. omega arith) ∙ simp (take-pack (suc a) 0 0 0 ha hb hc hd) (omega arith)
step-pack zero zero zero zero ha hb hc hd = unfold decimal_step in refl

module _ (d : Digits) (f : FourBits d) where
  -- a step of the digits is a step of the number that has them
  pub less-element : element_of (one_less d) ≡ decimal_step (element_of d)
  less-element =
      rw (by_rows d.thousands d.hundreds d.tens d.ones)
      (sym (step-pack _ _ _ _ f.thousands-bits f.hundreds-bits f.tens-bits f.ones-bits))

pub same_step : SameStep
same_step e h = less-element (digits_of e) (of-bits e) ∙ ap decimal_step (whole e h)

-- so a step of a number goes by the rows
pub step-whole : (e : ℕ) → e < 65536 → decimal_step e ≡ element_of (borrowed (thousands e) (hundreds e) (tens e) (ones e))
step-whole e h = sym (same_step e h) ∙ ap element_of (by_rows (thousands e) (hundreds e) (tens e) (ones e))
