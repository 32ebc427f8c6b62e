-- Many counts at once are as many steps, by `same-counts`.
use Rattle.std.proofs.Common.{◌≡◌, ℕ, ◌<◌, arith}
use Rattle.numbers.specs.Times.{times}
use Rattle.count.specs.declared.digits.Digits.{Digits}
use Rattle.count.specs.Step.{decimal_step}
use Rattle.count.specs.Borrow.{digits_of, element_of}
use Rattle.count.specs.Lending.{many_less}
use Rattle.count.specs.Inner.{FourBits}
use Rattle.count.proofs.Lends.{less-many-bits, same-counts}
use Rattle.count.proofs.digits.by_digits.Goals as goal

bits : (n e : ℕ) (d left : Digits) → d ≡ digits_of e → left ≡ many_less n d → FourBits left
bits n e d left of less = rw (less, of) (less-many-bits n e)

counted : (n e r : ℕ) (d left : Digits) → e < 65536 → d ≡ digits_of e → left ≡ many_less n d → r ≡ element_of left → r ≡ times n decimal_step e
counted n e r d left h of less put = rw (put, less, of) (same-counts n e h)

pub element_of-requires : goal.element_of-requires
element_of-requires c = bits _ _ _ _ c.digits_of-d.ensures c.many_less.ensures

pub returns : goal.returns
returns c =
    let h : c.args.element < 65536 = omega arith in
    counted c.args.number c.args.element _ _ _ h c.digits_of-d.ensures c.many_less.ensures c.element_of.ensures
