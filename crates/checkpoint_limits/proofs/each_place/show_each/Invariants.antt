-- No more prefixes are counted than have been tried.
use Rattle.std.proofs.Common.{◌≤◌}
use Rattle.checkpoint_limits.proofs.each_place.show_each.Given as goal

abbrev pub invariant-loop-n : goal.invariant-loop-n
invariant-loop-n g l = l.number ≤ l.n-counter
