use Rattle.runner.proofs.Turns.{Running}
use Rattle.runner.proofs.tell.Given as goal

abbrev pub invariant-loop-index : goal.invariant-loop-index
invariant-loop-index l = Running l.form l.trace l.first l.last l.initial.board l.place l.initial.out l.index l.board l.at l.out
