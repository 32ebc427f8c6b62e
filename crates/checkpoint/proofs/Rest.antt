-- Checkpoints compared and made one after another, the board of each from the one before: one more, none left, and that all of them are those of the trace. Assumes nothing.
use Prim.Native.Nat.{ℕ, zero, suc, ◌+◌, ◌-◌, ◌*◌, ◌<◌, ◌≤◌}
use mathlib.Core.Bool.{true, false, not}
use mathlib.Core.List.{List, ◌++◌}
use mathlib.Core.Path.{◌≡◌, refl, sym, ap, ◌∙◌}
use native.Mathlib.Numerals.{add-one}
use native.Mathlib.Omega.{arith}
use lib.ListN.{length, length-append}
use Rattle.board.specs.declared.Board.{Board}
use Rattle.board_encoding.specs.Places.{board_size}
use Rattle.board_encoding.specs.Stored.{board_bytes}
use Rattle.board_encoding.proofs.Length.{bytes-length}
use Rattle.text.specs.Put.{Put, put, answered}
use Rattle.text.proofs.Puts.{put-fits, put-length, put_then}
use Rattle.trace.specs.declared.head.Head.{Head}
use Rattle.trace.specs.Judgement.{Judgement, sound, refused_at, ruled}
use Rattle.trace.specs.Sizes.{checkpoint_every}
use Rattle.trace.specs.Section.{checkpoint_place}
use Rattle.checkpoint.specs.Boards.{board_after, board_part, checkpoint_bytes, boards_from}
use Rattle.checkpoint.specs.Check.{same_bytes, check_from}
use Rattle.checkpoint.specs.Inner.{trace_found, board_next, check_rest, boards_rest}
use Rattle.checkpoint.proofs.Found.{found-length, board-next}

left_one : (k number : ℕ) → k < number → number - k ≡ suc (number - suc k)
left_one k number h = omega arith

-- one checkpoint, compared with the board that was made for it
module _ (bytes : List ℕ) (operations : ℕ) (b made : Board) (k number place : ℕ) (h : k < number) (next : made ≡ board_next bytes b k) (here : place ≡ checkpoint_place operations k) where
  pub stops : not (same_bytes (board_part bytes place) (board_bytes made)) ≡ true → check_rest bytes operations b k (number - k) ≡ refused_at 18 place
  stops differs = rw (left_one k number h) (rw⁻¹ next (rw⁻¹ here (rw differs refl)))

  pub goes-on : not (same_bytes (board_part bytes place) (board_bytes made)) ≡ false → check_rest bytes operations made (k + 1) (number - (k + 1)) ≡ check_rest bytes operations b k (number - k)
  goes-on same = rw (add-one k) (rw (left_one k number h) (rw⁻¹ next (rw⁻¹ here (rw same refl))))

pub none_left : (bytes : List ℕ) (operations : ℕ) (b : Board) (k number : ℕ) → number ≤ k → check_rest bytes operations b k (number - k) ≡ sound tt
none_left bytes operations b k number h = let none : number - k ≡ zero = omega arith in rw none refl

-- the boards' bytes
rest-length : (bytes : List ℕ) (b : Board) (k left : ℕ) → length (boards_rest bytes b k left) ≡ board_size * left
rest-length bytes b k zero = refl
rest-length bytes b k (suc left) =
    let one = bytes-length (board_next bytes b k) in
    let rest = rest-length bytes (board_next bytes b k) (suc k) left in
    simp (length-append) (omega arith)

-- one board put behind the others: what is left to put decides
module _ (bytes : List ℕ) (b made : Board) (k number : ℕ) (h : k < number) (next : made ≡ board_next bytes b k) (out : List ℕ) (at at₁ : ℕ) (out₁ : List ℕ) (said : answered at₁ out₁ ≡ put (board_bytes made) out at) (room : at + board_size * (number - k) ≤ length out) where
  long : length (board_bytes made) ≡ board_size
  long = bytes-length made

  same_length : length out₁ ≡ length out
  same_length = put-length (board_bytes made) out at at₁ out₁ said

  pub room_after : at₁ + board_size * (number - (k + 1)) ≤ length out₁
  room_after =
      let moved : at₁ ≡ at + length (board_bytes made) = ap (λ (p : Put). p.place) (said ∙ put-fits (board_bytes made) out at (omega (arith, long))) in
      omega (arith, long, same_length, moved)

  pub boards-go-on : put (boards_rest bytes made (k + 1) (number - (k + 1))) out₁ at₁ ≡ put (boards_rest bytes b k (number - k)) out at
  boards-go-on =
      let left = number - suc k in
      let rest = boards_rest bytes made (suc k) left in
      let all : boards_rest bytes b k (number - k) ≡ board_bytes made ++ rest = rw (left_one k number h) (rw⁻¹ next refl) in
      let fits : at + length (board_bytes made ++ rest) ≤ length out = simp length-append (omega (arith, long, rest-length bytes made (suc k) left)) in
      let later = put rest out₁ at₁ in
      rw (add-one k) (put_then (board_bytes made) rest out out₁ later.bytes at at₁ later.place fits said refl ∙ ap (λ (text : List ℕ). put text out at) (sym all))

-- from the fresh board on, they are the trace's
module _ (bytes : List ℕ) (head : Head) where
  at-checkpoint : (k : ℕ) → checkpoint_every * suc k ≤ head.operations
      → board_next bytes (board_after (trace_found bytes head) (checkpoint_every * k)) k ≡ board_after (trace_found bytes head) (checkpoint_every * suc k)
  at-checkpoint k h =
      let sum : checkpoint_every * k + checkpoint_every ≡ checkpoint_every * suc k = omega arith in
      board-next bytes head (checkpoint_every * k) checkpoint_every (omega arith) ∙ ap (board_after (trace_found bytes head)) sum

  pub rest-checks : (k left : ℕ) → checkpoint_every * (k + left) ≤ head.operations
      → check_rest bytes head.operations (board_after (trace_found bytes head) (checkpoint_every * k)) k left ≡ check_from bytes (trace_found bytes head) k left
  rest-checks k zero h = refl
  rest-checks k (suc left) h =
      let many = found-length bytes 0 head.operations in
      let here = not (same_bytes (checkpoint_bytes bytes head.operations k) (board_bytes (board_after (trace_found bytes head) (checkpoint_every * suc k)))) in
      rw many (rw (at-checkpoint k (omega arith)) (ap (λ (after : Judgement Unit). ruled here 18 (checkpoint_place head.operations k) after) (rest-checks (suc k) left (omega arith))))

  pub rest-boards : (k left : ℕ) → checkpoint_every * (k + left) ≤ head.operations
      → boards_rest bytes (board_after (trace_found bytes head) (checkpoint_every * k)) k left ≡ boards_from (trace_found bytes head) k left
  rest-boards k zero h = refl
  rest-boards k (suc left) h =
      rw (at-checkpoint k (omega arith)) (ap (λ (rest : List ℕ). board_bytes (board_after (trace_found bytes head) (checkpoint_every * suc k)) ++ rest) (rest-boards (suc k) left (omega arith)))
