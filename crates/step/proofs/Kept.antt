-- What a step keeps of the board besides its channels and owed ticks: model and divisor always, remainder, warp and defer flag but for catch-up and run.
-- Assumes nothing.
use mathlib.Core.Bool.{false}
use mathlib.Core.List.{List, [], ◌∷◌}
use mathlib.Core.Path.{◌≡◌, refl, ◌∙◌}
use Rattle.board.specs.declared.Board.{Board}
use Rattle.step.specs.Operation.{Operation}
use Rattle.step.specs.Step.{step, steps}
use Rattle.step.specs.Time.{is_time_call, TimeKept}
use Rattle.step.proofs.Every.{every-other, every-step}

pub time-kept : (b : Board) (o : Operation) → is_time_call o ≡ false → TimeKept b (step b o).board
time-kept b o other =
    every-other b (λ events ticks outcome. TimeKept b outcome.board)
    (λ events number. record { model-kept = refl; divisor-kept = refl; remainder-kept = refl; warp-kept = refl; defer-kept = refl })
    (λ events bytes value channels plain fits three. record { model-kept = refl; divisor-kept = refl; remainder-kept = refl; warp-kept = refl; defer-kept = refl })
    (λ events w so_far. so_far.kept)
    o
    other

pub settings-kept : (b : Board) (o : Operation) → ((step b o).board.model ≡ b.model) × ((step b o).board.divisor ≡ b.divisor)
settings-kept b o =
    every-step b (λ events ticks outcome. (outcome.board.model ≡ b.model) × (outcome.board.divisor ≡ b.divisor))
    (λ events number. (refl, refl))
    (λ events bytes value channels plain fits three. (refl, refl))
    (λ events w so_far. (so_far.kept.model-kept, so_far.kept.divisor-kept))
    (λ given warp defer none since. (refl, refl))
    o

pub steps-model : (b : Board) (os : List Operation) → (steps b os).model ≡ b.model
steps-model b [] = refl
steps-model b (o ∷ os) = steps-model (step b o).board os ∙ (settings-kept b o).0
