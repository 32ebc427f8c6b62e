-- A board has three channels, and every step leaves three. Assumes nothing.
use Prim.Native.Nat.{ℕ}
use mathlib.Core.Path.{◌≡◌, refl}
use mathlib.Core.List.{List, [], ◌∷◌}
use lib.ListN.{length}
use Rattle.channel.specs.declared.PitType.{PitType}
use Rattle.board.specs.declared.Board.{Board}
use Rattle.board.specs.Making.{fresh}
use Rattle.step.specs.Operation.{Operation}
use Rattle.step.specs.Step.{step, steps}
use Rattle.step.proofs.Every.{every-step}

pub fresh-three : (model : PitType) (divisor : ℕ) → length (fresh model divisor).channels ≡ 3
unfolding fresh
fresh-three model divisor = refl

pub step-three : (b : Board) → length b.channels ≡ 3 → (o : Operation) → length (step b o).board.channels ≡ 3
step-three b three o =
    every-step b (λ events ticks outcome. length outcome.board.channels ≡ 3)
    (λ events number. three)
    (λ events bytes value channels plain fits keeps. keeps three)
    (λ events w so_far. so_far.leaves-three three)
    (λ given warp defer none since. three)
    o

pub steps-three : (b : Board) → length b.channels ≡ 3 → (os : List Operation) → length (steps b os).channels ≡ 3
steps-three b three [] = three
steps-three b three (o ∷ os) = steps-three (step b o).board (step-three b three o) os
