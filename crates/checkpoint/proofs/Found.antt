-- The operations found in a trace's bytes, taken in parts, and the boards after them. Assumes nothing.
use Prim.Native.Nat.{ℕ, zero, suc, ◌+◌, ◌-◌, ◌≤◌}
use mathlib.Core.List.{List, [], ◌∷◌, ◌++◌}
use mathlib.Core.Path.{◌≡◌, refl, sym, ap, ◌∙◌}
use native.Mathlib.Nat.{zero-add, add-zero, le_of_suc-le-suc}
use native.Mathlib.Omega.{arith}
use lib.ListN.{length, take, drop}
use Rattle.board.specs.declared.Board.{Board}
use Rattle.board.specs.Making.{fresh}
use Rattle.trace.specs.declared.head.Head.{Head}
use Rattle.trace.specs.declared.operation.Operation.{Operation}
use Rattle.trace.specs.Operation.{operation_in}
use Rattle.recorded.specs.Made.{make, make_all}
use Rattle.runner.specs.Inner.{found_from}
use Rattle.checkpoint.specs.Boards.{board_after}
use Rattle.checkpoint.specs.Inner.{trace_found}

pub found-length : (bytes : List ℕ) (i n : ℕ) → length (found_from bytes i n) ≡ n
found-length bytes i zero = refl
found-length bytes i (suc n) = ap suc (found-length bytes (suc i) n)

pub found_take : (bytes : List ℕ) (i m n : ℕ) → m ≤ n → take m (found_from bytes i n) ≡ found_from bytes i m
found_take bytes i zero n h = refl
found_take bytes i (suc m) zero h = absurd (omega arith)
found_take bytes i (suc m) (suc n) h = ap (λ (os : List Operation). operation_in bytes i ∷ os) (found_take bytes (suc i) m n (le_of_suc-le-suc h))

pub found_drop : (bytes : List ℕ) (i m n : ℕ) → m ≤ n → drop m (found_from bytes i n) ≡ found_from bytes (i + m) (n - m)
found_drop bytes i zero n h = let all : n - 0 ≡ n = omega arith in rw (add-zero i) (rw all refl)
found_drop bytes i (suc m) zero h = absurd (omega arith)
found_drop bytes i (suc m) (suc n) h =
    let less : suc n - suc m ≡ n - m = omega arith in
    let more : suc i + m ≡ i + suc m = omega arith in
    found_drop bytes (suc i) m n (le_of_suc-le-suc h) ∙ rw more (rw less refl)

found_add : (bytes : List ℕ) (i m n : ℕ) → found_from bytes i (m + n) ≡ found_from bytes i m ++ found_from bytes (i + m) n
found_add bytes i zero n = let none : 0 + n ≡ n = omega arith in rw none (rw (add-zero i) refl)
found_add bytes i (suc m) n =
    let next : suc m + n ≡ suc (m + n) = omega arith in
    let more : suc i + m ≡ i + suc m = omega arith in
    rw next (ap (λ (os : List Operation). operation_in bytes i ∷ os) (found_add bytes (suc i) m n ∙ rw more refl))

pub make-append : (b : Board) (os more : List Operation) → make_all b (os ++ more) ≡ make_all (make_all b os) more
make-append b [] more = refl
make-append b (o ∷ os) more = make-append (make b o).board os more

module _ (bytes : List ℕ) (head : Head) where
  pub board-found : (m : ℕ) → m ≤ head.operations → board_after (trace_found bytes head) m ≡ make_all (fresh head.model head.divisor) (found_from bytes 0 m)
  board-found m h = ap (make_all (fresh head.model head.divisor)) (found_take bytes 0 m head.operations h)

  -- the board after more operations
  pub board-next : (m n : ℕ) → m + n ≤ head.operations → make_all (board_after (trace_found bytes head) m) (found_from bytes m n) ≡ board_after (trace_found bytes head) (m + n)
  board-next m n h =
      let start = fresh head.model head.divisor in
      let all : found_from bytes 0 (m + n) ≡ found_from bytes 0 m ++ found_from bytes m n = found_add bytes 0 m n ∙ ap (λ (k : ℕ). found_from bytes 0 m ++ found_from bytes k n) (zero-add m) in
      ap (λ (b : Board). make_all b (found_from bytes m n)) (board-found m (omega arith))
      ∙ sym (make-append start (found_from bytes 0 m) (found_from bytes m n))
      ∙ ap (make_all start) (sym all)
      ∙ sym (board-found (m + n) h)
