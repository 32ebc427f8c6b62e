-- Many counts at once come to as many single counts. Request L6: "The result must be equal to that many single counts".
use Rattle.std.specs.Prelude.{◌≡◌, ℕ, ◌<◌}
use Rattle.numbers.specs.Times.{times}
use Rattle.count.specs.declared.digits.Digits.{Digits}
use Rattle.count.specs.Step.{decimal_step}
use Rattle.count.specs.Borrow.{digits_of, element_of, one_less}
use Rattle.count.specs.Lending.{many_less}

-- of any four digits
abbrev pub SameLess : Type 0
SameLess = (n : ℕ) (d : Digits) → many_less n d ≡ times n one_less d

-- of each of the 65,536 starts, in document 01's own way
abbrev pub SameCounts : Type 0
SameCounts = (n e : ℕ) → e < 65536 → element_of (many_less n (digits_of e)) ≡ times n decimal_step e
