-- What is left decides.
use Rattle.std.proofs.Common.{arith, sym, ◌∙◌, rules}
use Rattle.replay_from.specs.Decimal.{spelled}
use Rattle.replay_from.proofs.Digits.{no_digit, one-more, none_left}
use Rattle.replay_from.proofs.decimal.number.Goals as goal

pub returns-then-is_empty : goal.returns-then-is_empty
unfolding spelled
returns-then-is_empty c = search rules

pub loop-digit-init : goal.loop-digit-init
unfolding spelled
loop-digit-init c = search rules

pub returns-then-not-is_ascii_digit : goal.returns-then-not-is_ascii_digit
returns-then-not-is_ascii_digit c =
    sym (no_digit _ c.loop-digit.n c.loop-digit.digit-index (omega arith) c.if-not-is_ascii_digit.ensures.cases)
    ∙ c.loop-digit.invariant

pub loop-digit-preserved : goal.loop-digit-preserved
loop-digit-preserved c =
    rw c.appended-n.ensures
    (sym (one-more _ c.loop-digit.n c.loop-digit.digit-index (omega arith)
    c.if-not-is_ascii_digit.ensures.cases.0 c.if-not-is_ascii_digit.ensures.cases.1)
    ∙ c.loop-digit.invariant)

pub returns : goal.returns
returns c = sym (none_left _ c.loop-digit.n c.loop-digit.digit-index (omega arith)) ∙ c.loop-digit.invariant
