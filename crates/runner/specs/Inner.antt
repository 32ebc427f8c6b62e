-- Not for readers: what the contracts of private functions and the proofs speak of, and what the crate checkpoint asks of the loop. `replay`, `replay_into` and
-- `answers_into` are promised without it.
use Rattle.std.specs.Prelude.{ℕ, zero, suc, ◌*◌, ◌≤◌, List, [], ◌∷◌, ◌≡◌, length}
use Rattle.text.specs.Put.{Put, put, answered}
use Rattle.board.specs.declared.Board.{Board}
use Rattle.trace.specs.declared.operation.Operation.{Operation}
use Rattle.trace.specs.Operation.{operation_in}
use Rattle.trace.specs.Trace.{operations_from}
use Rattle.trace.specs.Inner.{operations_of}
use Rattle.recorded.specs.Made.{make}
use Rattle.runner.specs.declared.Form.{Form}
use Rattle.runner.specs.declared.Told.{Told}
use Rattle.runner.specs.Printed.{room_of, said_of, told_from}

-- the operations to tell of, in a sound trace: from an index on, as many as are asked for
abbrev pub to_tell : List ℕ → ℕ → ℕ → List Operation
to_tell trace first number = operations_of (operations_from trace first number)

-- .. and in any: those that are found at the indices
abbrev pub found_from : List ℕ → ℕ → ℕ → List Operation
found_from trace index zero = []
found_from trace index (suc left) = operation_in trace index ∷ found_from trace (suc index) left

-- a text put at a place of the lent bytes, and no longer than its room
pub record Puts (text : List ℕ) (room : ℕ) (bytes : List ℕ) (place next : ℕ) (after : List ℕ) : Type 0 where
  pub told : answered next after ≡ put text bytes place
  pub short : length text ≤ room

-- the board, and the lent bytes with the place behind what was said
pub record Telling : Type 0 where
  pub board : Board
  pub text : Put

abbrev pub telling : Board → ℕ → List ℕ → Telling
telling board place bytes = record { board = board; text = answered place bytes }

-- an operation is made, and what is said of it is put behind the rest
abbrev pub tell_one : Form → ℕ → Telling → Operation → Telling
tell_one form index t o =
    record { board = (make t.board o).board; text = put (said_of form index (make t.board o)) t.text.bytes t.text.place }

-- .. one after another
abbrev pub tell_all : Form → ℕ → List Operation → Telling → Telling
tell_all form index [] t = t
tell_all form index (o ∷ os) t = tell_all form (suc index) os (tell_one form index t o)

-- what the code answers, with the lent bytes at its end; and no operation has more text than its room
pub record Tells (form : Form) (first number : ℕ) (os : List Operation) (start : Board) (place : ℕ) (bytes : List ℕ) (r : Told) (after : List ℕ) : Type 0 where
  pub tells : telling r.board r.place after ≡ tell_all form first os (telling start place bytes)
  pub shortly : length (told_from form start first os) ≤ room_of form * number
