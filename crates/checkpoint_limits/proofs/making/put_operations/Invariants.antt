-- What is put and what is left to put are the whole.
use Rattle.std.proofs.Common.{◌≡◌, ◌-◌}
use Rattle.checkpoint_limits.specs.Made.{over_and_over}
use Rattle.checkpoint_limits.proofs.making.put_operations.Given as goal

abbrev pub invariant-loop-place : goal.invariant-loop-place
invariant-loop-place l = over_and_over l.source l.place (l.end - l.place) l.out ≡ over_and_over l.source 16 (l.end - 16) l.fn.out
