-- docs/ENCODING.md, "Exported functions": what a call on a board in bytes comes to, before its answer is written.
use Rattle.std.specs.Prelude.{ℕ, ◌+◌, cond, List, eqb, ltb, length, Option, Some, None, Result, Ok, Err}
use Rattle.encoding.specs.Front.{put_front}
use Rattle.board.specs.declared.Board.{Board}
use Rattle.board_encoding.specs.Places.{board_size}
use Rattle.board_encoding.specs.Stored.{board_bytes}
use Rattle.board_encoding.specs.Loaded.{board_readable, board_in}
use Rattle.board_operation.specs.declared.Operation.{Operation}
use Rattle.board_operation.specs.declared.answering.Numbers.{Numbers}
use Rattle.board_operation.specs.Made.{Outcome-in-numbers, operate}
use Rattle.in_bytes.specs.declared.working.CallError.{CallError}
use Rattle.in_bytes.specs.declared.working.CallError.TheVariants.{Short, Unreadable, Unknown, NoRoom, Refused}

-- "Its answer is 16 bytes: a number of eight bytes, then two of four."
abbrev pub board_answer_size : ℕ
board_answer_size = 8 + 4 + 4

-- the number that is returned for each case: the table of docs/ENCODING.md
abbrev pub status_of : Result Numbers CallError → ℕ
status_of (Err Short) = 101
status_of (Err Unreadable) = 102
status_of (Err Unknown) = 103
status_of (Err NoRoom) = 104
status_of (Err (Refused number)) = number
status_of (Ok numbers) = 0

-- what a call comes to, and the board's and the events' bytes after it
pub record Calling : Type 0 where
  pub called : Result Numbers CallError
  pub bytes : List ℕ
  pub events : List ℕ

abbrev pub calling : Result Numbers CallError → List ℕ → List ℕ → Calling
calling called bytes events = record { called = called; bytes = bytes; events = events }

-- a board written over the bytes
abbrev pub stored : Board → List ℕ → List ℕ
stored b bytes = put_front (board_bytes b) bytes

-- .. unless it refuses: "with such a number no lent byte changes"
abbrev pub making : Outcome-in-numbers → List ℕ → List ℕ → Calling
making o bytes events =
    cond (eqb o.numbers.refusal 0) (calling (Ok o.numbers) (stored o.board bytes) o.events)
    (calling (Err (Refused o.numbers.refusal)) bytes events)

-- 103 before 104: "fewer bytes of answer than it has: .. 16 for a board"
abbrev pub call_on : Board → Option Operation → ℕ → ℕ → List ℕ → List ℕ → Calling
call_on b None room place bytes events = calling (Err Unknown) bytes events
call_on b (Some op) room place bytes events = cond (ltb room board_answer_size) (calling (Err NoRoom) bytes events) (making (operate b op events place) bytes events)

-- a call on any bytes: 101 and 102 before all others
unfoldable pub call : Option Operation → ℕ → ℕ → List ℕ → List ℕ → Calling
call asked room place bytes events =
    cond (ltb (length bytes) board_size) (calling (Err Short) bytes events)
    (cond (board_readable bytes) (call_on (board_in bytes) asked room place bytes events) (calling (Err Unreadable) bytes events))
