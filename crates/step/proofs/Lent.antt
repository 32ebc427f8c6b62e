-- No call lengthens or shortens the bytes that it is lent, and one that is lent none leaves none. Assumes nothing.
use mathlib.Core.Path.{◌≡◌, refl}
use lib.ListN.{length}
use Rattle.board.specs.declared.Board.{Board}
use Rattle.step.specs.Operation.{Operation, lent}
use Rattle.step.specs.Step.{step}
use Rattle.step.proofs.Every.{every-step}

pub lent_length : (b : Board) (o : Operation) → length (step b o).events ≡ length (lent o)
lent_length b o =
    every-step b (λ events ticks outcome. length outcome.events ≡ length events)
    (λ events number. refl)
    (λ events bytes value channels plain fits three. fits)
    (λ events w so_far. so_far.same_length)
    (λ given warp defer none since. refl)
    o
