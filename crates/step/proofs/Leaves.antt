-- Demand 1: a refused step leaves the board and the lent bytes as they were. Assumes nothing.
use Prim.Native.Nat.{ℕ}
use mathlib.Core.Path.{◌≡◌, refl}
use mathlib.Core.List.{List}
use Rattle.refusal.specs.Reply.{refused}
use Rattle.board.specs.declared.Board.{Board}
use Rattle.board.specs.Outcome.{Outcome}
use Rattle.step.specs.Operation.{Operation, lent}
use Rattle.step.specs.Step.{step}
use Rattle.refusal.proofs.Apart.{not-refused}
use Rattle.step.proofs.Every.{every-step}

abbrev Leaves : Board → List ℕ → Outcome → Type 0
Leaves b events outcome = (k : ℕ) → outcome.reply ≡ refused k → (outcome.board ≡ b) × (outcome.events ≡ events)

pub refused-leaves : (b : Board) (o : Operation) (k : ℕ) → (step b o).reply ≡ refused k → ((step b o).board ≡ b) × ((step b o).events ≡ lent o)
refused-leaves b o =
    every-step b (λ events ticks outcome. Leaves b events outcome)
    (λ events number k e. (refl, refl))
    (λ events bytes value channels plain fits three k e. absurd (not-refused value k e))
    (λ events w so_far k e. absurd (not-refused _ k e))
    (λ given warp defer none since k e. absurd (not-refused _ k e))
    o
