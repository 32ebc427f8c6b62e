-- What a replay from a checkpoint comes to: refused where it is missing or not readable, and the lines behind it where its board is. Assumes nothing.
use Prim.Native.Nat.{ℕ, suc, ◌+◌, ◌-◌, ◌*◌, ◌<◌, ◌≤◌}
use mathlib.Core.Bool.{Bool, true, false, not}
use mathlib.Core.List.{List, ◌++◌}
use mathlib.Core.Path.{◌≡◌, refl, sym, ap, ◌∙◌}
use native.Mathlib.Nat.{zero-add}
use native.Mathlib.Omega.{arith}
use lib.Dec.{ltb}
use lib.ListN.{length, take, drop, length-take, length-drop}
use borrow.Author.Tests.{lt-ltb, le-ltb, ltb-true}
use Rattle.board.specs.declared.Board.{Board}
use Rattle.board_encoding.specs.Places.{board_size}
use Rattle.board_encoding.specs.Loaded.{board_readable, board_in}
use Rattle.in_bytes.specs.Inner.{is_board, board_found}
use Rattle.trace.specs.declared.head.Head.{Head}
use Rattle.trace.specs.declared.operation.Operation.{Operation}
use Rattle.trace.specs.Judgement.{Judgement, Faulted, refused_by, sound, fault_at, refused_at, ruled}
use Rattle.trace.proofs.Values.{not-refused, again}
use Rattle.trace.specs.Section.{checkpoint_place}
use Rattle.line.specs.Line.{line_room}
use Rattle.line.specs.Lines.{fault_line, end_line}
use Rattle.runner.specs.declared.Form.TheVariants.{Lines}
use Rattle.runner.specs.Printed.{told_from}
use Rattle.runner.specs.Lent.{in_room}
use Rattle.runner.specs.Inner.{found_from}
use Rattle.checkpoint.specs.Boards.{operations_to, board_part, checkpoint_bytes, checkpoints_in}
use Rattle.checkpoint.specs.From.{start_at, start_checked, lines_from}
use Rattle.checkpoint.specs.Inner.{trace_found, lines_found, from_found}
use Rattle.checkpoint.proofs.Found.{found-length, found_drop}

-- as many bytes as a board has are a board exactly when they are readable
pub part-board : (bytes : List ℕ) (place : ℕ) → place + board_size ≤ length bytes → is_board (board_part bytes place) ≡ board_readable (board_part bytes place)
part-board bytes place h =
    let long : board_size ≤ length (board_part bytes place) = simp (length-take, length-drop) (omega arith) in
    simp (le-ltb (length (board_part bytes place)) board_size long)

pub board-there : (bytes : List ℕ) → is_board bytes ≡ true → board_found bytes ≡ board_in bytes
board-there bytes is = rw is refl

-- the board's bytes, cut out of the trace
pub part_at : (bytes : List ℕ) (n k place : ℕ) → place ≡ checkpoint_place n k → take (place + board_size - place) (drop place bytes) ≡ checkpoint_bytes bytes n k
part_at bytes n k place is =
    let size : place + board_size - place ≡ board_size = omega arith in
    (λ i. take (size i) (drop place bytes)) ∙ ap (board_part bytes) is

checked_refused : (j : Judgement Board) (f : Faulted) → start_checked j ≡ refused_by f → j ≡ refused_by f
checked_refused (refused_by g) f e = ap again e
checked_refused (sound b) f e = absurd (not-refused tt f e)

module _ (bytes : List ℕ) (n k : ℕ) where
  pub start-missing : checkpoints_in bytes n ≤ k → refused_at 18 (length bytes) ≡ start_checked (start_at bytes n k)
  start-missing h = rw (le-ltb k (checkpoints_in bytes n) h) refl

  pub start-unreadable : k < checkpoints_in bytes n → board_readable (checkpoint_bytes bytes n k) ≡ false
      → refused_at 18 (checkpoint_place n k) ≡ start_checked (start_at bytes n k)
  start-unreadable there is = rw (lt-ltb k (checkpoints_in bytes n) there) (rw is refl)

  pub start-there : k < checkpoints_in bytes n → board_readable (checkpoint_bytes bytes n k) ≡ true → sound tt ≡ start_checked (start_at bytes n k)
  start-there there is = rw (lt-ltb k (checkpoints_in bytes n) there) (rw is refl)

  begins-by : (few readable : Bool) → ltb k (checkpoints_in bytes n) ≡ few → board_readable (checkpoint_bytes bytes n k) ≡ readable
      → start_checked (ruled (not few) 18 (length bytes) (ruled (not readable) 18 (checkpoint_place n k) (sound (board_in (checkpoint_bytes bytes n k))))) ≡ sound tt
      → (k < checkpoints_in bytes n) × (board_readable (checkpoint_bytes bytes n k) ≡ true)
  begins-by true true few readable e = (ltb-true k (checkpoints_in bytes n) few, readable)
  begins-by true false few readable e = absurd (not-refused tt (fault_at 18 (checkpoint_place n k)) (sym e))
  begins-by false other few readable e = absurd (not-refused tt (fault_at 18 (length bytes)) (sym e))

  -- where a replay can begin, the checkpoint is there and its bytes are a board
  pub begins : start_checked (start_at bytes n k) ≡ sound tt → (k < checkpoints_in bytes n) × (board_readable (checkpoint_bytes bytes n k) ≡ true)
  begins = begins-by (ltb k (checkpoints_in bytes n)) (board_readable (checkpoint_bytes bytes n k)) refl refl

module _ (bytes : List ℕ) (head : Head) (k : ℕ) (out : List ℕ) where
  abbrev n : ℕ
  n = head.operations

  many : length (found_from bytes 0 n) ≡ n
  many = found-length bytes 0 n

  pub from-refused : (f : Faulted) → start_checked (start_at bytes n k) ≡ refused_by f → in_room line_room (fault_line f) out ≡ from_found bytes (trace_found bytes head) k out
  from-refused f is = rw many (rw (checked_refused (start_at bytes n k) f is) refl)

  module _ (there : k < checkpoints_in bytes n) where
    pub from-readable : board_readable (checkpoint_bytes bytes n k) ≡ true → operations_to k ≤ n → (b : Board) → b ≡ board_in (checkpoint_bytes bytes n k) → (first : ℕ) → first ≡ operations_to k
        → in_room (line_room * suc (n - first)) (lines_found bytes b first n) out ≡ from_found bytes (trace_found bytes head) k out
    from-readable is few b spelled first at =
        let behind : drop (operations_to k) (found_from bytes 0 n) ≡ found_from bytes (operations_to k) (n - operations_to k)
        = found_drop bytes 0 (operations_to k) n few ∙ ap (λ (i : ℕ). found_from bytes i (n - operations_to k)) (zero-add (operations_to k)) in
        let lines : lines_found bytes b first n ≡ lines_from (trace_found bytes head) k b
        = rw at (rw many (ap (λ (os : List Operation). told_from Lines b (operations_to k) os ++ end_line n) (sym behind))) in
        let text : in_room (line_room * suc (n - first)) (lines_found bytes b first n) out ≡ in_room (line_room * suc (n - operations_to k)) (lines_from (trace_found bytes head) k b) out
        = λ i. in_room (line_room * suc (n - at i)) (lines i) out in
        text ∙ rw many (rw (lt-ltb k (checkpoints_in bytes n) there) (rw is (rw spelled (rw many refl))))
