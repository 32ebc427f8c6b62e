-- The thousands stand beside the three digits of the table.
use Rattle.std.proofs.Common.{◌≡◌, ℕ, ◌+◌, ◌*◌, ◌/◌, ◌%◌, ◌<◌, arith}
use Rattle.numbers.specs.Digits.{packed}
use Rattle.numbers.proofs.Digits.{packed-below}
use Rattle.count.proofs.ThreeDigits.{four-packed}
use Rattle.count.proofs.at_once.four_digits.Goals as goal

four : (v rest : ℕ) → v < 10000 → rest ≡ packed (v % 1000) → 4096 * (v / 1000) + rest ≡ packed v
four v rest h e = rw e (four-packed v h)

pub overflow_add-result : goal.overflow_add-result
overflow_add-result c =
    let is = four c.args.value c.three_digits.result c.requires c.three_digits.ensures in
    omega (arith, is, packed-below c.args.value)

pub returns : goal.returns
returns c = four c.args.value _ c.requires c.three_digits.ensures
