-- A marked trace is read as the same trace, passes the full check, and is not changed by marking it again. Assumes nothing.
use Prim.Native.Nat.{ℕ, zero, suc, ◌+◌, ◌*◌, ◌<◌}
use mathlib.Core.List.{List, ◌++◌, append_assoc}
use mathlib.Core.Path.{◌≡◌, sym, ap, subst, ◌∙◌}
use native.Mathlib.Nat.{zero-add, add-zero}
use native.Mathlib.Omega.{arith}
use lib.ListN.{length, take, drop, length-append}
use lib.Seq.{take_at, drop-append-add}
use borrow.Author.Tests.{lt-ltb}
use Rattle.numbers.specs.Little.{four_bytes}
use Rattle.board_encoding.specs.Places.{board_size}
use Rattle.board_encoding.specs.Stored.{board_bytes}
use Rattle.board_encoding.proofs.Length.{bytes-length}
use Rattle.trace.specs.Judgement.{sound}
use Rattle.trace.specs.Sizes.{checkpoints_of}
use Rattle.trace.specs.Operation.{place_of}
use Rattle.trace.specs.Section.{checkpoint_place, section_end}
use Rattle.trace.specs.Trace.{Trace, read_trace}
use Rattle.trace.specs.Bytes.{AllBytes, trace_bytes, behind, counted, Writable}
use Rattle.trace.proofs.Back.{trace-long, read-back-with}
use Rattle.trace.proofs.Only.{only-form}
use Rattle.checkpoint.specs.Boards.{size, checkpoint, boards_from, section_of, checkpoints_in}
use Rattle.checkpoint.specs.Check.{check}
use Rattle.checkpoint.specs.Mark.{marked_as, mark}
use Rattle.checkpoint.proofs.Lengths.{boards-length}
use Rattle.checkpoint.proofs.Passes.{Right, passes}

-- one board out of many
board-part : (t : Trace) (k left i : ℕ) → i < left → take board_size (drop (board_size * i) (boards_from t k left)) ≡ board_bytes (checkpoint t (k + i))
board-part t k zero i h = absurd (omega arith)
board-part t k (suc left) zero h = rw (add-zero k) (take_at (board_bytes (checkpoint t k)) (boards_from t (suc k) left) board_size (bytes-length (checkpoint t k)))
board-part t k (suc left) (suc i) h =
    let first = board_bytes (checkpoint t k) in
    let one = bytes-length (checkpoint t k) in
    let next : k + suc i ≡ suc k + i = omega arith in
    let sum : length first + board_size * i ≡ board_size * suc i = omega arith in
    let past : drop (board_size * suc i) (first ++ boards_from t (suc k) left) ≡ drop (board_size * i) (boards_from t (suc k) left)
    = subst (λ (n : ℕ). drop n (first ++ boards_from t (suc k) left) ≡ drop (board_size * i) (boards_from t (suc k) left)) sum (drop-append-add first (boards_from t (suc k) left) (board_size * i)) in
    ap (take board_size) past ∙ board-part t (suc k) left i (omega arith) ∙ ap (λ (m : ℕ). board_bytes (checkpoint t m)) (sym next)

module _ (t : Trace) (w : Writable t) where
  abbrev n : ℕ
  n = size t

  abbrev count : ℕ
  count = checkpoints_of n

  abbrev marked : List ℕ
  marked = trace_bytes t ++ section_of t

  front : length (trace_bytes t) ≡ place_of n
  front = trace-long t w

  long : length marked ≡ section_end n
  long =
      let boards = boards-length t 0 count in
      let both = length-append (trace_bytes t) (section_of t) in
      let section = length-append (four_bytes count) (boards_from t 0 count) in
      omega (arith, front)

  pub marked-read : read_trace marked ≡ sound t
  marked-read = read-back-with t w (counted (boards_from t 0 count) (boards-length t 0 count))

  counts-them : checkpoints_in marked n ≡ count
  counts-them = let end = long in simp (lt-ltb (place_of n) (length marked) (omega arith))

  right : Right marked t 0 count
  right i h =
      let head = trace_bytes t ++ four_bytes count in
      let grouped : marked ≡ head ++ boards_from t 0 count = sym (append_assoc (trace_bytes t) (four_bytes count) (boards_from t 0 count)) in
      let sum : length head + board_size * i ≡ checkpoint_place n i = let both = length-append (trace_bytes t) (four_bytes count) in omega (arith, front) in
      let there : drop (checkpoint_place n i) marked ≡ drop (board_size * i) (boards_from t 0 count)
      = ap (drop (checkpoint_place n i)) grouped ∙ subst (λ (p : ℕ). drop p (head ++ boards_from t 0 count) ≡ drop (board_size * i) (boards_from t 0 count)) sum (drop-append-add head (boards_from t 0 count) (board_size * i)) in
      ap (take board_size) (ap (λ (k : ℕ). drop (checkpoint_place n k) marked) (zero-add i) ∙ there) ∙ board-part t 0 count i h

  pub marked-passes : check marked ≡ sound count
  marked-passes = rw counts-them at (passes marked t marked-read (rw counts-them right))

-- what marking makes of the bytes of a sound trace
module _ (bytes : List ℕ) (all : AllBytes bytes) (t : Trace) (is : read_trace bytes ≡ sound t) where
  written : Writable t
  written = (only-form bytes all t is).0

  pub marked-as : marked_as bytes t ≡ trace_bytes t ++ section_of t
  marked-as =
      let whole = (only-form bytes all t is).1 in
      ap (λ (l : List ℕ). take (place_of (size t)) l ++ section_of t) (sym whole)
      ∙ ap (λ (l : List ℕ). l ++ section_of t) (take_at (trace_bytes t) (behind bytes (size t)) (place_of (size t)) (trace-long t written))

  -- it is read as the same trace
  pub read_alike : read_trace (marked_as bytes t) ≡ read_trace bytes
  read_alike = ap read_trace marked-as ∙ marked-read t written ∙ sym is

  -- it passes the check, with as many checkpoints as it has
  pub check-passes : check (marked_as bytes t) ≡ sound (checkpoints_of (size t))
  check-passes = ap check marked-as ∙ marked-passes t written

  -- marking twice changes nothing more
  pub marked-again : mark (marked_as bytes t) ≡ sound (marked_as bytes t)
  unfolding mark
  marked-again =
      let front : take (place_of (size t)) (marked_as bytes t) ≡ trace_bytes t
      = ap (take (place_of (size t))) marked-as ∙ take_at (trace_bytes t) (section_of t) (place_of (size t)) (trace-long t written) in
      rw (read_alike ∙ is) (ap (λ (l : List ℕ). sound (l ++ section_of t)) front ∙ ap sound (sym marked-as))
