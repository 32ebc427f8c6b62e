-- An operation of a trace made on a board: one step of the board, with the lent bytes after it.
use Rattle.std.specs.Prelude.{List, [], ◌∷◌}
use Rattle.trace.specs.declared.operation.Operation.{Operation}
use Rattle.board.specs.declared.Board.{Board}
use Rattle.board.specs.Outcome.{Outcome}
use Rattle.board.specs.Answer.{reply_of}
use Rattle.step.specs.Step.{step}
use Rattle.recorded.specs.declared.making.Made.{Made}
use Rattle.recorded.specs.Asked.{asked, padded}

-- a call's reply and board, and the lent bytes after it in six places
abbrev pub in_six : Outcome → Outcome
in_six outcome = record { reply = outcome.reply; board = outcome.board; events = padded outcome.events }

-- an operation is one step of the board (step/specs/Step.antt); "Ports and channels are checked only when run."
unfoldable pub make : Board → Operation → Outcome
make b o = in_six (step b (asked o))

-- the board after a list of operations: "A refused operation does not stop the rest."
abbrev pub make_all : Board → List Operation → Board
make_all b [] = b
make_all b (o ∷ os) = make_all (make b o).board os

-- what the code answers, with the board after it
abbrev pub made_on : Board → Made → Outcome
made_on b m = record { reply = reply_of m.answer; board = b; events = m.events }
