-- What is left decides.
use Rattle.std.proofs.Common.{drop, ◌≡◌}
use Rattle.replay_from.specs.Decimal.{spelled, spelled_on}
use Rattle.replay_from.proofs.decimal.number.Given as goal

abbrev pub invariant-loop-digit : goal.invariant-loop-digit
invariant-loop-digit l = spelled_on l.n (drop l.digit-index l.digits) ≡ spelled l.digits
