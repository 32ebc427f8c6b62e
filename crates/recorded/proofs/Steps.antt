-- The board after a list of recorded operations is the board after their steps, so what is proved of lists of steps holds of traces. Assumes nothing.
use mathlib.Core.List.{List, [], ◌∷◌, map}
use mathlib.Core.Path.{◌≡◌, refl}
use Rattle.board.specs.declared.Board.{Board}
use Rattle.step.specs.Step.{step, steps}
use Rattle.trace.specs.declared.operation.Operation.{Operation}
use Rattle.recorded.specs.Asked.{asked}
use Rattle.recorded.specs.Made.{make, make_all}

same-board : (b : Board) (o : Operation) → (make b o).board ≡ (step b (asked o)).board
unfolding make
same-board b o = refl

pub made-by-steps : (b : Board) (os : List Operation) → make_all b os ≡ steps b (map asked os)
made-by-steps b [] = refl
made-by-steps b (o ∷ os) = rw (same-board b o) (made-by-steps (step b (asked o)).board os)
