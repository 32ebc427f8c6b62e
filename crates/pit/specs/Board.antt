-- docs/ENCODING.md, "Exported functions": what the calls on a board return, and the lent bytes as they leave them.
use Rattle.std.specs.Prelude.{ℕ, cond, List, eqb, ltb, length, Result, Ok, Err}
use Rattle.refusal.specs.Reply.{number_in}
use Rattle.channel.specs.Models.{model_numbered}
use Rattle.encoding.specs.Front.{put_front}
use Rattle.board.specs.Making.{fresh, new}
use Rattle.board_encoding.specs.Places.{board_size}
use Rattle.board_operation.specs.declared.answering.Numbers.{Numbers}
use Rattle.board_operation.specs.Asked.{operation_of}
use Rattle.in_bytes.specs.declared.working.CallError.{CallError}
use Rattle.in_bytes.specs.Called.{Calling, status_of, stored, call}
use Rattle.pit.specs.Answer.{board_answer_bytes}

-- what a call returns, and the board's, the events' and the answer's bytes after it
pub record BoardCalled : Type 0 where
  pub status : ℕ
  pub bytes : List ℕ
  pub events : List ℕ
  pub answer : List ℕ

abbrev pub board_called : ℕ → List ℕ → List ℕ → List ℕ → BoardCalled
board_called status bytes events answer = record { status = status; bytes = bytes; events = events; answer = answer }

abbrev pub numbers_answer : Numbers → List ℕ
numbers_answer n = board_answer_bytes n.first n.second n.third

-- "with such a number no lent byte changes"; otherwise the answer is written
abbrev pub answer_after : Result Numbers CallError → List ℕ → List ℕ
answer_after (Err error) answer = answer
answer_after (Ok numbers) answer = put_front (numbers_answer numbers) answer

-- what a call on the bytes comes to (in_bytes/specs/Called.antt), its number returned and its answer written
abbrev pub answered_by : Calling → List ℕ → BoardCalled
answered_by k answer = board_called (status_of k.called) k.bytes k.events (answer_after k.called answer)

-- "101, 102, 103, 104, then refusals 1 to 5, 7, 8, 15 and 16 in the order of docs/REFUSALS.md"
unfoldable pub board_operation : ℕ → ℕ → ℕ → ℕ → List ℕ → List ℕ → List ℕ → BoardCalled
board_operation code target number place bytes events answer = answered_by (call (operation_of code target number) (length answer) place bytes events) answer

-- `pit_board_new`: 101; 103 "a model above 1"; then refusal 3
unfoldable pub new_status : ℕ → ℕ → List ℕ → ℕ
new_status model divisor bytes =
    cond (ltb (length bytes) board_size) 101 (cond (ltb 1 model) 103 (number_in (new (model_numbered model) divisor).reply))

-- "writes the fresh board of a model, 0 or 1, with a divisor"; "with such a number no lent byte changes"
unfoldable pub new_after : ℕ → ℕ → List ℕ → List ℕ
new_after model divisor bytes =
    cond (eqb (new_status model divisor bytes) 0) (stored (fresh (model_numbered model) divisor) bytes) bytes
