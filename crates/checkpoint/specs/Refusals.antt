-- Document 02, L7: when the full check and a replay from a checkpoint refuse, and where, as rows in the order in which they are tested (trace/specs/Refusals.antt).
use Rattle.std.specs.Prelude.{ℕ, zero, suc, ◌<◌, ◌≤◌, true, List, [], ◌∷◌, ◌++◌, ◌≡◌, length}
use Rattle.board_encoding.specs.Stored.{board_bytes}
use Rattle.board_encoding.specs.Loaded.{board_readable}
use Rattle.trace.specs.Judgement.{Judgement, refused_by, sound, fault_at}
use Rattle.trace.specs.Section.{checkpoint_place}
use Rattle.trace.specs.Trace.{Trace, read_trace}
use Rattle.trace.specs.Refusals.{Row, order}
use Rattle.checkpoint.specs.Boards.{size, checkpoint, checkpoint_bytes, checkpoints_in}

-- 18: "the first checkpoint whose bytes differ"
abbrev pub checkpoint_differs : List ℕ → Trace → ℕ → Row
checkpoint_differs bytes t k =
    record { fault = fault_at 18 (checkpoint_place (size t) k); condition = checkpoint_bytes bytes (size t) k ≡ board_bytes (checkpoint t k) → ⊥ }

-- some checkpoint of a trace has other bytes than its board
abbrev pub Differs : List ℕ → Trace → Type 0
Differs bytes t = (k : ℕ) × (k < checkpoints_in bytes (size t)) × (checkpoint_bytes bytes (size t) k ≡ board_bytes (checkpoint t k) → ⊥)

-- from checkpoint k on, as many as are left
abbrev pub checkpoint_rows : List ℕ → Trace → ℕ → ℕ → List Row
checkpoint_rows bytes t k zero = []
checkpoint_rows bytes t k (suc left) = checkpoint_differs bytes t k ∷ checkpoint_rows bytes t (suc k) left

-- "after all faults of form"
abbrev pub check_rows : List ℕ → Judgement Trace → List Row
check_rows bytes (refused_by f) = []
check_rows bytes (sound t) = checkpoint_rows bytes t 0 (checkpoints_in bytes (size t))

abbrev pub check_order : List ℕ → List Row
check_order bytes = order bytes ++ check_rows bytes (read_trace bytes)

-- 18: "for a replay from one that is missing", at the whole length ..
abbrev pub checkpoint_missing : List ℕ → ℕ → ℕ → Row
checkpoint_missing bytes operations k = record { fault = fault_at 18 (length bytes); condition = checkpoints_in bytes operations ≤ k }

-- .. "or unreadable", at its first byte
abbrev pub checkpoint_unreadable : List ℕ → ℕ → ℕ → Row
checkpoint_unreadable bytes operations k =
    record { fault = fault_at 18 (checkpoint_place operations k); condition = board_readable (checkpoint_bytes bytes operations k) ≡ true → ⊥ }

abbrev pub from_rows : List ℕ → ℕ → Judgement Trace → List Row
from_rows bytes k (refused_by f) = []
from_rows bytes k (sound t) = checkpoint_missing bytes (size t) k ∷ checkpoint_unreadable bytes (size t) k ∷ []

abbrev pub from_order : List ℕ → ℕ → List Row
from_order bytes k = order bytes ++ from_rows bytes k (read_trace bytes)
