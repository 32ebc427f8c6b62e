-- From good digits that many steps come to `packed` of a difference, by `decimal-times`; what good digits stand for is below the turn.
use Rattle.std.proofs.Common.{◌≡◌, ◌+◌, ◌-◌, ◌%◌, ◌<◌, sym, ap, ◌∙◌, arith}
use Rattle.numbers.specs.Digits.{weight, packed}
use Rattle.numbers.specs.Modulo.{minus_mod}
use Rattle.numbers.proofs.Digits.{weight-below}
use Rattle.count.proofs.Repeated.{decimal-times}
use Rattle.count.proofs.at_once.by_table.Goals as goal

pub overflow_add-value : goal.overflow_add-value
overflow_add-value c = omega (arith, c.weight-value.ensures, weight-below c.args.element c.requires)

pub returns : goal.returns
returns c =
    let e = c.args.element in
    let n = c.args.number in
    let w = c.weight-value in
    let fits : e < 65536 = omega arith in
    let less : (w.result + 10000 - n % 10000) % 10000 ≡ minus_mod 10000 (weight e) n = rw w.ensures (ap (◌% 10000) (omega arith)) in
    c.four_digits.ensures ∙ ap packed less ∙ sym (decimal-times n e fits c.requires)
