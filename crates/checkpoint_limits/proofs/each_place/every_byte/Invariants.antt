-- No more changes are seen than have been tried.
use Rattle.std.proofs.Common.{◌+◌, ◌-◌, ◌*◌, ◌≤◌}
use Rattle.checkpoint_limits.proofs.each_place.every_byte.Given as goal

abbrev pub invariant-loop-more : goal.invariant-loop-more
invariant-loop-more g l = l.seen ≤ 111 * l.more

abbrev pub invariant-loop-place : goal.invariant-loop-place
invariant-loop-place g l = l.seen ≤ 111 * l.more + (l.place - l.checkpoint)
