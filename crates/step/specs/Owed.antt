-- 02, L1: "Timer ticks of a run or catch-up become owed ticks on the board": none is lost and none is made twice.
use Rattle.std.specs.Prelude.{ℕ, ◌+◌, Bool, false, ◌||◌, List, [], ◌∷◌, ◌≡◌}
use Rattle.refusal.specs.Reply.{Reply, refused, accepted}
use Rattle.board.specs.declared.Board.{Board}
use Rattle.board.specs.Outcome.{Value}
use Rattle.step.specs.Operation.{Operation, kind_of}
use Rattle.step.specs.Step.{step, steps}
use Rattle.step.specs.Time.{amounts_in, yielded, all_yielded}

-- ticks made, in what an accepted call says
abbrev pub made_in : Value → ℕ
made_in value = (amounts_in value).made

-- ticks that a reply says were made
abbrev pub made_by : Reply Value → ℕ
made_by (refused number) = 0
made_by (accepted value) = made_in value

-- all ticks made in a list of operations
abbrev pub all_made : Board → List Operation → ℕ
all_made b [] = 0
all_made b (o ∷ os) = made_by (step b o).reply + all_made (step b o).board os

-- which operations may change the number of ticks owed: catch-up and run, which bring some, and the call that works them off
abbrev pub changes_owed : Operation → Bool
changes_owed o = (kind_of o).timed || (kind_of o).works

-- every operation, a refused one too: what is owed after it and what it made is what was owed before it and what it yielded
abbrev pub OwedKept : Type 0
OwedKept = (b : Board) (o : Operation) → (step b o).board.owed.0 + made_by (step b o).reply ≡ b.owed.0 + yielded (step b o).reply

-- .. so over every list of operations
abbrev pub OwedInAll : Type 0
OwedInAll = (b : Board) (os : List Operation) → (steps b os).owed.0 + all_made b os ≡ b.owed.0 + all_yielded b os

-- no other operation changes the number owed
abbrev pub OwedOnly : Type 0
OwedOnly = (b : Board) (o : Operation) → changes_owed o ≡ false → (step b o).board.owed ≡ b.owed
