-- It goes the digits' way, which comes to document 01's.
use Rattle.std.proofs.Common.{◌≡◌, ℕ, ◌<◌, arith}
use Rattle.count.specs.declared.digits.Digits.{Digits}
use Rattle.count.specs.Step.{decimal_step}
use Rattle.count.specs.Borrow.{digits_of, element_of, one_less}
use Rattle.count.specs.Inner.{FourBits}
use Rattle.count.proofs.Borrow.{of-bits, less-bits}
use Rattle.count.proofs.StepByRows.{same_step}
use Rattle.count.proofs.digits.decimal_step.Goals as goal

-- on both ways
bits : (e : ℕ) (d next : Digits) → d ≡ digits_of e → next ≡ one_less d → FourBits next
bits e d next of less = rw (less, of) (less-bits (digits_of e) (of-bits e))

stepped : (e r : ℕ) (d next : Digits) → e < 65536 → d ≡ digits_of e → next ≡ one_less d → r ≡ element_of next → r ≡ decimal_step e
stepped e r d next h of less put = rw (put, less, of) (same_step e h)

pub element_of-requires : goal.element_of-requires
element_of-requires c = bits _ _ _ c.digits_of-d.ensures c.one_less.ensures

pub returns-then-d-gt0 : goal.returns-then-d-gt0
returns-then-d-gt0 c =
    let h : c.args.element < 65536 = omega arith in
    stepped c.args.element _ _ _ h c.digits_of-d.ensures c.one_less.ensures c.element_of.ensures

pub element_of-requires-2 : goal.element_of-requires-2
element_of-requires-2 c = bits _ _ _ c.digits_of-d.ensures c.one_less-2.ensures

pub returns : goal.returns
returns c =
    let h : c.args.element < 65536 = omega arith in
    stepped c.args.element _ _ _ h c.digits_of-d.ensures c.one_less-2.ensures c.element_of-2.ensures
