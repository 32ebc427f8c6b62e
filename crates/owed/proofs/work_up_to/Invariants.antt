-- What is made already, and that the rest leads to the same end on any board with the parts that the loop began with.
use Rattle.std.proofs.Common.{◌-◌}
use Rattle.owed.proofs.Working.{Working}
use Rattle.owed.proofs.work_up_to.Given as goal

abbrev pub invariant-loop-made : goal.invariant-loop-made
invariant-loop-made l = Working l.fn.channels l.fn.model l.fn.owed.0 l.fn.stated l.fn.events l.fn.place l.made l.owed.0 l.channels l.events l.at

abbrev pub decreases-loop-made : goal.decreases-loop-made
decreases-loop-made l = l.stated - l.made
