-- Demand 3's "all in accepted calls": a call that is accepted when its turn comes, and which calls of a list are.
use Rattle.std.specs.Prelude.{List, [], ◌∷◌, ◌≡◌}
use Rattle.refusal.specs.Reply.{Reply, refused, accepted}
use Rattle.board.specs.declared.Board.{Board}
use Rattle.board.specs.Outcome.{Value}
use Rattle.step.specs.Operation.{Operation}
use Rattle.step.specs.Step.{step}

abbrev pub IsAccepted : Board → Operation → Type 0
IsAccepted b o = (value : Value) × ((step b o).reply ≡ accepted value)

-- every call of a list is
abbrev pub AllAccepted : Board → List Operation → Type 0
AllAccepted b [] = Unit
AllAccepted b (o ∷ os) = IsAccepted b o × AllAccepted (step b o).board os

-- what a refused call leaves, or what an accepted one makes of it
abbrev pub unless_refused : {A : Type 0} → Reply Value → A → A → A
unless_refused (refused number) old new = old
unless_refused (accepted value) old new = new

-- the accepted calls of a list, each judged when its turn comes
abbrev pub accepted_of : Board → List Operation → List Operation
accepted_of b [] = []
accepted_of b (o ∷ os) = unless_refused (step b o).reply (accepted_of (step b o).board os) (o ∷ accepted_of (step b o).board os)
