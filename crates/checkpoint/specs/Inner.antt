-- Not for readers: what the contracts of private functions speak of. Of the operations they know only what is found at the indices of the bytes.
use Rattle.std.specs.Prelude.{ℕ, zero, suc, ◌+◌, ◌-◌, ◌*◌, ◌<◌, ◌≤◌, not, List, [], ◌++◌, length}
use Rattle.board.specs.declared.Board.{Board}
use Rattle.board_encoding.specs.Places.{board_size}
use Rattle.trace.specs.declared.head.Head.{Head}
use Rattle.board_encoding.specs.Stored.{board_bytes}
use Rattle.trace.specs.Judgement.{Judgement, sound, ruled}
use Rattle.trace.specs.Sizes.{checkpoint_every, checkpoints_of}
use Rattle.trace.specs.Section.{checkpoint_place}
use Rattle.trace.specs.Trace.{Trace, trace_of}
use Rattle.line.specs.Lines.{end_line}
use Rattle.runner.specs.declared.Form.TheVariants.{Lines}
use Rattle.runner.specs.Printed.{told_from}
use Rattle.runner.specs.Lent.{Replaying}
use Rattle.runner.specs.Inner.{found_from}
use Rattle.recorded.specs.Made.{make_all}
use Rattle.checkpoint.specs.Boards.{size, checkpoint_bytes}
use Rattle.checkpoint.specs.Check.{same_bytes}
use Rattle.checkpoint.specs.From.{start_at, from_text, text_into}

-- the trace that a head and the operations found behind it are
abbrev pub trace_found : List ℕ → Head → Trace
trace_found bytes head = trace_of head (found_from bytes 0 head.operations)

-- the board after the next 256 operations, those behind checkpoint k - 1
abbrev pub board_next : List ℕ → Board → ℕ → Board
board_next bytes b k = make_all b (found_from bytes (checkpoint_every * k) checkpoint_every)

-- the check from checkpoint k on, as many as are left, where the board before it is known
abbrev pub check_rest : List ℕ → ℕ → Board → ℕ → ℕ → Judgement Unit
check_rest bytes operations b k zero = sound tt
check_rest bytes operations b k (suc left) =
    ruled (not (same_bytes (checkpoint_bytes bytes operations k) (board_bytes (board_next bytes b k)))) 18 (checkpoint_place operations k)
    (check_rest bytes operations (board_next bytes b k) (suc k) left)

-- .. and the boards from checkpoint k on
abbrev pub boards_rest : List ℕ → Board → ℕ → ℕ → List ℕ
boards_rest bytes b k zero = []
boards_rest bytes b k (suc left) = board_bytes (board_next bytes b k) ++ boards_rest bytes (board_next bytes b k) (suc k) left

-- so many checkpoints of a trace, whose boards stand whole in the bytes
pub record Standing (bytes : List ℕ) (operations number : ℕ) : Type 0 where
  pub few : number ≤ checkpoints_of operations
  pub whole : (k : ℕ) → k < number → checkpoint_place operations k + board_size ≤ length bytes

-- the lines of the operations that are found from an index on, from a board on, and the end line
abbrev pub lines_found : List ℕ → Board → ℕ → ℕ → List ℕ
lines_found bytes b first operations = told_from Lines b first (found_from bytes first (operations - first)) ++ end_line operations

-- a replay from a checkpoint of a trace that is sound
abbrev pub from_found : List ℕ → Trace → ℕ → List ℕ → Replaying
from_found bytes t k out = text_into (from_text t k (start_at bytes (size t) k)) out
