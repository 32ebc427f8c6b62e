-- How many bytes section three and a marked trace have. Assumes nothing.
use Prim.Native.Nat.{ℕ, zero, suc, ◌*◌, ◌≤◌}
use mathlib.Core.List.{List}
use mathlib.Core.Path.{◌≡◌, refl}
use native.Mathlib.Omega.{arith}
use lib.ListN.{length, length-append}
use lib.Seq.{length-take-le}
use Rattle.board_encoding.specs.Places.{board_size}
use Rattle.board_encoding.proofs.Length.{bytes-length}
use Rattle.trace.specs.Sizes.{checkpoints_of}
use Rattle.trace.specs.Operation.{place_of}
use Rattle.trace.specs.Section.{section_end}
use Rattle.trace.specs.Trace.{Trace}
use Rattle.checkpoint.specs.Boards.{size, checkpoint, boards_from}
use Rattle.checkpoint.specs.Mark.{marked_as}

pub boards-length : (t : Trace) (k left : ℕ) → length (boards_from t k left) ≡ board_size * left
boards-length t k zero = refl
boards-length t k (suc left) =
    let one = bytes-length (checkpoint t k) in
    let rest = boards-length t (suc k) left in
    simp length-append (omega arith)

pub marked-length : (bytes : List ℕ) (t : Trace) → place_of (size t) ≤ length bytes → length (marked_as bytes t) ≡ section_end (size t)
marked-length bytes t h =
    let front = length-take-le (place_of (size t)) bytes h in
    let boards = boards-length t 0 (checkpoints_of (size t)) in
    simp length-append (omega arith)
