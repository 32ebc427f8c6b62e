use Rattle.std.proofs.Common.{◌-◌, ◌≡◌}
use Rattle.checkpoint.specs.Inner.{check_rest}
use Rattle.checkpoint.proofs.checking.compare.Given as goal

-- what is left to compare decides
abbrev pub invariant-loop-k : goal.invariant-loop-k
invariant-loop-k l =
    check_rest l.trace l.fn.head.operations l.board l.k (l.fn.number - l.k) ≡ check_rest l.trace l.fn.head.operations l.initial.board 0 l.fn.number
