-- Document 02, L7: "A full check replays the trace and compares every checkpoint."
use Rattle.std.specs.Prelude.{ℕ, zero, suc, Bool, true, false, not, ◌&&◌, List, [], ◌∷◌, eqb}
use Rattle.board_encoding.specs.Stored.{board_bytes}
use Rattle.trace.specs.Judgement.{Judgement, refused_by, sound, ruled, and_then}
use Rattle.trace.specs.Section.{checkpoint_place}
use Rattle.trace.specs.Trace.{Trace, read_trace}
use Rattle.line.specs.Line.{line_room}
use Rattle.line.specs.Lines.{checked_line, fault_line}
use Rattle.runner.specs.Lent.{Replaying, in_room}
use Rattle.checkpoint.specs.Boards.{size, checkpoint, checkpoint_bytes, checkpoints_in}

-- byte by byte
abbrev pub same_bytes : List ℕ → List ℕ → Bool
same_bytes [] [] = true
same_bytes [] (y ∷ ys) = false
same_bytes (x ∷ xs) [] = false
same_bytes (x ∷ xs) (y ∷ ys) = eqb x y && same_bytes xs ys

-- "18 for the first checkpoint whose bytes differ, unreadable ones too": from checkpoint k on, as many as are left
abbrev pub check_from : List ℕ → Trace → ℕ → ℕ → Judgement Unit
check_from bytes t k zero = sound tt
check_from bytes t k (suc left) =
    ruled (not (same_bytes (checkpoint_bytes bytes (size t) k) (board_bytes (checkpoint t k)))) 18 (checkpoint_place (size t) k)
    (check_from bytes t (suc k) left)

-- the first so many, and how many there are
abbrev pub check_first : List ℕ → Trace → ℕ → Judgement ℕ
check_first bytes t number = and_then (check_from bytes t 0 number) (λ all. sound number)

-- "after all faults of form": how many checkpoints there are, all right, none where there is no section
unfoldable pub check : List ℕ → Judgement ℕ
check bytes = and_then (read_trace bytes) (λ t. check_first bytes t (checkpoints_in bytes (size t)))

-- `checked N`, or the fault's line
abbrev pub checked_text : Judgement ℕ → List ℕ
checked_text (refused_by f) = fault_line f
checked_text (sound number) = checked_line number

-- docs/ENCODING.md, `pit_check`: the line into lent bytes of any length
unfoldable pub check_into : List ℕ → List ℕ → Replaying
check_into trace bytes = in_room line_room (checked_text (check trace)) bytes
