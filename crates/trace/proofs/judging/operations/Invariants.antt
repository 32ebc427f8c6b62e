use Rattle.std.proofs.Common.{◌-◌, ◌≡◌}
use Rattle.trace.specs.Trace.{operations_from}
use Rattle.trace.specs.Inner.{soundness}
use Rattle.trace.proofs.judging.operations.Given as goal

-- what is left to judge decides
abbrev pub invariant-loop-k : goal.invariant-loop-k
invariant-loop-k l = soundness (operations_from l.bytes l.k (l.fn.number - l.k)) ≡ soundness (operations_from l.bytes 0 l.fn.number)
