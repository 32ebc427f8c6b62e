-- Document 02, L7: a replay from a checkpoint. "If the check passes, replaying from a checkpoint prints the same lines as a replay from the start would from there."
use Rattle.std.specs.Prelude.{ℕ, suc, ◌-◌, ◌*◌, not, List, ◌++◌, ltb, length, drop}
use Rattle.board.specs.declared.Board.{Board}
use Rattle.board_encoding.specs.Loaded.{board_readable, board_in}
use Rattle.trace.specs.Judgement.{Judgement, refused_by, sound, ruled, and_then}
use Rattle.trace.specs.Section.{checkpoint_place}
use Rattle.trace.specs.Trace.{Trace, read_trace}
use Rattle.line.specs.Line.{line_room}
use Rattle.line.specs.Lines.{end_line, fault_line}
use Rattle.runner.specs.declared.Form.TheVariants.{Lines}
use Rattle.runner.specs.Printed.{told_from}
use Rattle.runner.specs.Lent.{Replaying, in_room}
use Rattle.checkpoint.specs.Boards.{size, operations_to, checkpoint_bytes, checkpoints_in}

-- "18 .. for a replay from one that is missing or unreadable": a missing one's place is the whole length, an unreadable one's its first byte
abbrev pub start_at : List ℕ → ℕ → ℕ → Judgement Board
start_at bytes operations k =
    ruled (not (ltb k (checkpoints_in bytes operations))) 18 (length bytes)
    (ruled (not (board_readable (checkpoint_bytes bytes operations k))) 18 (checkpoint_place operations k)
    (sound (board_in (checkpoint_bytes bytes operations k))))

-- no head line; each operation behind the checkpoint has its own index, and the end line the whole operation count
abbrev pub lines_from : Trace → ℕ → Board → List ℕ
lines_from t k b = told_from Lines b (operations_to k) (drop (operations_to k) t.operations) ++ end_line (size t)

-- what is printed and the room that it is asked for: 64 bytes for each of these operations and for the end, or 64 for a refusal's line
pub record Text : Type 0 where
  pub text : List ℕ
  pub room : ℕ

abbrev pub from_text : Trace → ℕ → Judgement Board → Text
from_text t k (refused_by f) = record { text = fault_line f; room = line_room }
from_text t k (sound b) = record { text = lines_from t k b; room = line_room * suc (size t - operations_to k) }

abbrev pub from_judged : List ℕ → ℕ → Judgement Trace → Text
from_judged bytes k (refused_by f) = record { text = fault_line f; room = line_room }
from_judged bytes k (sound t) = from_text t k (start_at bytes (size t) k)

-- the board that the replay from checkpoint k begins with, or why there is none
abbrev pub start_of : List ℕ → ℕ → Judgement Board
start_of bytes k = and_then (read_trace bytes) (λ t. start_at bytes (size t) k)

-- whether there is one, or why not
abbrev pub start_checked : Judgement Board → Judgement Unit
start_checked j = and_then j (λ b. sound tt)

-- what the replay from checkpoint k prints
unfoldable pub printed_from : List ℕ → ℕ → List ℕ
printed_from bytes k = (from_judged bytes k (read_trace bytes)).text

-- docs/ENCODING.md, `pit_replay_from`: into lent bytes of any length
abbrev pub text_into : Text → List ℕ → Replaying
text_into t bytes = in_room t.room t.text bytes

unfoldable pub replay_from_into : List ℕ → ℕ → List ℕ → Replaying
replay_from_into trace k bytes = text_into (from_judged trace k (read_trace trace)) bytes
