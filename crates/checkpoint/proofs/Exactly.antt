-- When the full check refuses, and where: for the first fault of form, or after them for the first checkpoint whose bytes differ, and for nothing else; and when a replay from
-- a checkpoint does. Assumes nothing.
use Prim.Native.Nat.{ℕ, zero, suc, ◌≤◌}
use mathlib.Core.Bool.{true, not}
use mathlib.Core.List.{List, [], ◌∷◌}
use mathlib.Core.Path.{◌≡◌, sym, ap, subst, ◌∙◌}
use mathlib.Core.Logic.{◌↔◌}
use lib.Dec.{ltb}
use borrow.Author.Tests.{le-ltb, ltb-false, not-true}
use Rattle.board.specs.declared.Board.{Board}
use Rattle.board_encoding.specs.Stored.{board_bytes}
use Rattle.board_encoding.specs.Loaded.{board_readable, board_in}
use Rattle.trace.specs.Judgement.{Judgement, Faulted, refused_by, sound, and_then}
use Rattle.trace.specs.Trace.{Trace, read_trace}
use Rattle.trace.specs.Refusals.{FirstAt, order}
use Rattle.trace.proofs.Deciding.{Decided, accepts, tested, made_of}
use Rattle.trace.proofs.Parts.{then-decided}
use Rattle.trace.proofs.Refusals.{trace-refused-exactly}
use Rattle.line.specs.Lines.{fault_line}
use Rattle.checkpoint.specs.Boards.{size, checkpoint, checkpoint_bytes, checkpoints_in}
use Rattle.checkpoint.specs.Check.{same_bytes, check_from, check_first, check}
use Rattle.checkpoint.specs.From.{start_at, lines_from, from_text, from_judged, start_of, printed_from}
use Rattle.checkpoint.specs.Refusals.{checkpoint_differs, checkpoint_rows, check_rows, check_order, checkpoint_missing, checkpoint_unreadable, from_rows, from_order}
use Rattle.checkpoint.proofs.Same.{not-means, differ-means}

not-below : (a b : ℕ) → (not (ltb a b) ≡ true) ↔ (b ≤ a)
not-below a b = (λ e. ltb-false a b (not-true (ltb a b) e), λ h. ap not (le-ltb a b h))

-- the line of a fault
abbrev fault_in : Judgement Board → List ℕ
fault_in (refused_by f) = fault_line f
fault_in (sound b) = []

checkpoints-decided : (bytes : List ℕ) (t : Trace) (k left : ℕ) (f : Faulted) → Decided (check_from bytes t k left) (checkpoint_rows bytes t k left) f
checkpoints-decided bytes t k zero f = accepts tt f
checkpoints-decided bytes t k (suc left) f =
    let there = checkpoint_bytes bytes (size t) k in
    let made = board_bytes (checkpoint t k) in
    tested (not (same_bytes there made)) (checkpoint_differs bytes t k) _ _ f (differ-means there made) (λ same. checkpoints-decided bytes t (suc k) left f)

first-decided : (bytes : List ℕ) (t : Trace) (number : ℕ) (f : Faulted) → Decided (check_first bytes t number) (checkpoint_rows bytes t 0 number) f
first-decided bytes t number f = made_of (check_from bytes t 0 number) (λ all. number) _ f (checkpoints-decided bytes t 0 number f)

check-decided : (bytes : List ℕ) (f : Faulted) → Decided (check bytes) (check_order bytes) f
unfolding check
check-decided bytes f =
    then-decided (read_trace bytes) (λ t. check_first bytes t (checkpoints_in bytes (size t))) (order bytes) (check_rows bytes (read_trace bytes)) f
    (λ g. record { exactly = trace-refused-exactly bytes g })
    (λ t is. subst (λ (j : Judgement Trace). Decided (check_first bytes t (checkpoints_in bytes (size t))) (check_rows bytes j) f) (sym is) (first-decided bytes t (checkpoints_in bytes (size t)) f))

-- both directions, for all bytes, every number and every place
pub check-refused-exactly : (bytes : List ℕ) (f : Faulted) → (check bytes ≡ refused_by f) ↔ FirstAt (check_order bytes) f
check-refused-exactly bytes f = (check-decided bytes f).exactly

-- a replay from a checkpoint: missing, then not readable
start-decided : (bytes : List ℕ) (t : Trace) (k : ℕ) (f : Faulted) → Decided (start_at bytes (size t) k) (checkpoint_missing bytes (size t) k ∷ checkpoint_unreadable bytes (size t) k ∷ []) f
start-decided bytes t k f =
    let count = checkpoints_in bytes (size t) in
    let part = checkpoint_bytes bytes (size t) k in
    tested (not (ltb k count)) (checkpoint_missing bytes (size t) k) _ _ f (not-below k count) (λ there.
    tested (not (board_readable part)) (checkpoint_unreadable bytes (size t) k) [] _ f (not-means (board_readable part)) (λ readable. accepts (board_in part) f))

pub from-refused-exactly : (bytes : List ℕ) (k : ℕ) (f : Faulted) → (start_of bytes k ≡ refused_by f) ↔ FirstAt (from_order bytes k) f
from-refused-exactly bytes k f =
    (then-decided (read_trace bytes) (λ t. start_at bytes (size t) k) (order bytes) (from_rows bytes k (read_trace bytes)) f
    (λ g. record { exactly = trace-refused-exactly bytes g })
    (λ t is. subst (λ (j : Judgement Trace). Decided (start_at bytes (size t) k) (from_rows bytes k j) f) (sym is) (start-decided bytes t k f))
    ).exactly

-- what is printed then: the fault's line, or the lines behind the checkpoint from its board on
faults-by : (bytes : List ℕ) (k : ℕ) (j : Judgement Trace) (f : Faulted) → and_then j (λ t. start_at bytes (size t) k) ≡ refused_by f → (from_judged bytes k j).text ≡ fault_line f
faults-by bytes k (refused_by g) f e = ap fault_in e
faults-by bytes k (sound t) f e = ap (λ (j : Judgement Board). (from_text t k j).text) e

pub from-refused-prints : (bytes : List ℕ) (k : ℕ) (f : Faulted) → start_of bytes k ≡ refused_by f → printed_from bytes k ≡ fault_line f
unfolding printed_from
from-refused-prints bytes k f e = faults-by bytes k (read_trace bytes) f e

pub from-sound-prints : (bytes : List ℕ) (t : Trace) (k : ℕ) (b : Board) → read_trace bytes ≡ sound t → start_of bytes k ≡ sound b → printed_from bytes k ≡ lines_from t k b
unfolding printed_from
from-sound-prints bytes t k b is begins =
    ap (λ (j : Judgement Trace). (from_judged bytes k j).text) is
    ∙ ap (λ (j : Judgement Board). (from_text t k j).text) (ap (λ (j : Judgement Trace). and_then j (λ u. start_at bytes (size u) k)) (sym is) ∙ begins)
