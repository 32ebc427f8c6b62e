-- A refused call leaves the board: a list of operations leaves what its accepted calls leave, all of which are accepted without the others too. Assumes nothing.
use Prim.Native.Nat.{ℕ}
use mathlib.Core.List.{List, [], ◌∷◌, ◌++◌}
use mathlib.Core.Path.{◌≡◌, refl, ap, subst, ◌∙◌}
use Rattle.refusal.specs.Reply.{Reply, refused, accepted}
use Rattle.board.specs.declared.Board.{Board}
use Rattle.board.specs.Outcome.{Value}
use Rattle.step.specs.Operation.{Operation}
use Rattle.step.specs.Step.{step, steps}
use Rattle.step.specs.Accepted.{AllAccepted, unless_refused, accepted_of}
use Rattle.step.proofs.Leaves.{refused-leaves}

-- one list after another
pub steps-both : (b : Board) (os ps : List Operation) → steps b (os ++ ps) ≡ steps (steps b os) ps
steps-both b [] ps = refl
steps-both b (o ∷ os) ps = steps-both (step b o).board os ps

-- what holds of a refusal, and of a call that is accepted, holds of the call's reply
pub by-reply : (b : Board) (o : Operation) (P : Reply Value → Type 0) → ((number : ℕ) → (step b o).reply ≡ refused number → P (refused number))
    → ((value : Value) → (step b o).reply ≡ accepted value → P (accepted value))
    → P (step b o).reply
by-reply b o P refuses takes = go (step b o).reply refl
  where
    go : (reply : Reply Value) → (step b o).reply ≡ reply → P reply
    go (refused number) e = refuses number e
    go (accepted value) e = takes value e

pub all-accepted : (b : Board) (os : List Operation) → AllAccepted b (accepted_of b os)
all-accepted b [] = tt
all-accepted b (o ∷ os) =
    let after = accepted_of (step b o).board os in
    by-reply b o (λ (reply : Reply Value). AllAccepted b (unless_refused reply after (o ∷ after)))
    (λ number e. subst (λ (d : Board). AllAccepted d after) (refused-leaves b o number e).0 (all-accepted (step b o).board os))
    (λ value e. ((value, e), all-accepted (step b o).board os))

pub steps-accepted : (b : Board) (os : List Operation) → steps b os ≡ steps b (accepted_of b os)
steps-accepted b [] = refl
steps-accepted b (o ∷ os) =
    let after = accepted_of (step b o).board os in
    by-reply b o (λ (reply : Reply Value). steps (step b o).board os ≡ steps b (unless_refused reply after (o ∷ after)))
    (λ number e. steps-accepted (step b o).board os ∙ ap (λ (d : Board). steps d after) (refused-leaves b o number e).0)
    (λ value e. steps-accepted (step b o).board os)

-- none of them is left out
pub own-accepted : (b : Board) (os : List Operation) → AllAccepted b os → accepted_of b os ≡ os
own-accepted b [] took = refl
own-accepted b (o ∷ os) took =
    ap (λ (reply : Reply Value). unless_refused reply (accepted_of (step b o).board os) (o ∷ accepted_of (step b o).board os)) took.0.1
    ∙ ap (λ (ps : List Operation). o ∷ ps) (own-accepted (step b o).board os took.1)
