-- If the check passes, a replay from a checkpoint prints what the replay from the start prints from there. The trace can be written down: every trace that is read from bytes
-- can (`only-form`). Assumes nothing.
use Prim.Native.Nat.{ℕ, suc, ◌+◌, ◌*◌, ◌≤◌, ◌<◌}
use mathlib.Core.Bool.{Bool, true, false, cond}
use mathlib.Core.List.{List, [], ◌∷◌, ◌++◌, append_assoc}
use mathlib.Core.Path.{◌≡◌, refl, sym, ap, subst, ◌∙◌}
use native.Mathlib.Nat.{zero-add, add-zero}
use native.Mathlib.Omega.{arith}
use lib.Dec.{ltb}
use lib.ListN.{length, take, drop, take-append-drop}
use lib.Seq.{length-take-le}
use borrow.Author.Tests.{lt-ltb}
use Rattle.board.specs.declared.Board.{Board}
use Rattle.board.specs.Making.{fresh}
use Rattle.board_encoding.specs.Stored.{board_bytes}
use Rattle.trace.specs.declared.operation.Operation.{Operation}
use Rattle.trace.specs.Judgement.{Judgement, sound}
use Rattle.trace.specs.Sizes.{checkpoints_of}
use Rattle.trace.specs.Operation.{place_of}
use Rattle.trace.specs.Trace.{Trace, read_trace}
use Rattle.trace.specs.Bytes.{trace_bytes, Writable}
use Rattle.line.specs.Lines.{head_line, end_line}
use Rattle.recorded.specs.Made.{make, make_all}
use Rattle.runner.specs.declared.Form.{Form}
use Rattle.runner.specs.declared.Form.TheVariants.{Lines}
use Rattle.runner.specs.Printed.{told_from, said_of, printed}
use Rattle.checkpoint.specs.Boards.{size, operations_to, checkpoint, section_of, checkpoint_bytes, checkpoints_in}
use Rattle.checkpoint.specs.Check.{check}
use Rattle.checkpoint.specs.From.{start_at, lines_from, from_text, from_judged, printed_from}
use Rattle.checkpoint.proofs.Ranges.{board-read-back}
use Rattle.checkpoint.proofs.Passes.{passed}
use Rattle.checkpoint.proofs.Marked.{marked-read, marked-passes}

-- the lines of some operations, and of those behind them from the board after the first
told-append : (form : Form) (b : Board) (index : ℕ) (os more : List Operation)
    → told_from form b index (os ++ more) ≡ told_from form b index os ++ told_from form (make_all b os) (index + length os) more
told-append form b index [] more = rw (add-zero index) refl
told-append form b index (o ∷ os) more =
    let next : suc index + length os ≡ index + suc (length os) = omega arith in
    ap (λ (rest : List ℕ). said_of form index (make b o) ++ rest) (told-append form (make b o).board (suc index) os more ∙ rw next refl)
    ∙ sym (append_assoc (said_of form index (make b o)) _ _)

few-in : (operations k : ℕ) (begun : Bool) → k < cond begun (checkpoints_of operations) 0 → operations_to k ≤ operations
few-in operations k true h = omega arith
few-in operations k false h = absurd (omega arith)

module _ (bytes : List ℕ) (t : Trace) (w : Writable t) (is : read_trace bytes ≡ sound t) (number : ℕ) (right : check bytes ≡ sound number) (k : ℕ) (there : k < number) where
  stands : k < checkpoints_in bytes (size t)
  stands = subst (λ (n : ℕ). k < n) (sym (passed bytes t is number right).0) there

  few : operations_to k ≤ size t
  few = few-in (size t) k (ltb (place_of (size t)) (length bytes)) stands

  same : checkpoint_bytes bytes (size t) k ≡ board_bytes (checkpoint t k)
  same = rw zero-add at ((passed bytes t is number right).1 k there)

  begins : start_at bytes (size t) k ≡ sound (checkpoint t k)
  begins =
      let back = board-read-back t w (operations_to k) in
      rw (lt-ltb k (checkpoints_in bytes (size t)) stands) (rw same (rw back.0 (rw back.1 refl)))

  prints-from : printed_from bytes k ≡ lines_from t k (checkpoint t k)
  unfolding printed_from
  prints-from = ap (λ (j : Judgement Trace). (from_judged bytes k j).text) is ∙ ap (λ (j : Judgement Board). (from_text t k j).text) begins

  -- the plain replay's lines are the head, the lines before 256(k + 1), and exactly what a replay from checkpoint k prints
  pub from-there : printed bytes
      ≡ (head_line t.model t.divisor ++ told_from Lines (fresh t.model t.divisor) 0 (take (256 * suc k) t.operations)) ++ printed_from bytes k
  unfolding printed
  from-there =
      let start = fresh t.model t.divisor in
      let head = head_line t.model t.divisor in
      let first = take (operations_to k) t.operations in
      let rest = drop (operations_to k) t.operations in
      let long : 0 + length first ≡ operations_to k = zero-add (length first) ∙ length-take-le (operations_to k) t.operations few in
      let parts : told_from Lines start 0 t.operations ≡ told_from Lines start 0 first ++ told_from Lines (checkpoint t k) (operations_to k) rest
      = ap (told_from Lines start 0) (sym (take-append-drop (operations_to k) t.operations)) ∙ told-append Lines start 0 first rest
      ∙ ap (λ (index : ℕ). told_from Lines start 0 first ++ told_from Lines (checkpoint t k) index rest) long in
      let first-lines = told_from Lines start 0 first in
      let rest_lines = told_from Lines (checkpoint t k) (operations_to k) rest in
      let grouped : (head ++ (first-lines ++ rest_lines)) ++ end_line (size t) ≡ (head ++ first-lines) ++ (rest_lines ++ end_line (size t)) = simp append_assoc in
      rw is (ap (λ (lines : List ℕ). (head ++ lines) ++ end_line (size t)) parts ∙ grouped ∙ ap (λ (l : List ℕ). (head ++ first-lines) ++ l) (sym prints-from))

-- a trace that is marked can be replayed from every one of its checkpoints
pub marked-from-there : (t : Trace) → Writable t → (k : ℕ) → k < checkpoints_of (size t)
    → printed (trace_bytes t ++ section_of t)
    ≡ (head_line t.model t.divisor ++ told_from Lines (fresh t.model t.divisor) 0 (take (256 * suc k) t.operations)) ++ printed_from (trace_bytes t ++ section_of t) k
marked-from-there t w k there = from-there (trace_bytes t ++ section_of t) t w (marked-read t w) (checkpoints_of (size t)) (marked-passes t w) k there
