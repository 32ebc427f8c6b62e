-- No more cases differ than have been tried.
use Rattle.std.proofs.Common.{◌≤◌}
use Rattle.frozen.proofs.replay.Given as goal

abbrev pub invariant-loop-cases : goal.invariant-loop-cases
invariant-loop-cases g l = l.differing ≤ l.cases
