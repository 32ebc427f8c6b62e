-- Bytes that are a board hold one. Assumes nothing.
use Prim.Native.Nat.{ℕ}
use mathlib.Core.Bool.{Bool, true, false, cond, false≢true}
use mathlib.Core.List.{List}
use mathlib.Core.Path.{◌≡◌, refl}
use lib.Dec.{ltb}
use lib.ListN.{length}
use borrow.Author.Tests.{ltb-false}
use Rattle.board_encoding.specs.Places.{board_size}
use Rattle.board_encoding.specs.Loaded.{board_readable, HoldsBoard}
use Rattle.in_bytes.specs.Inner.{is_board}

holds_by : (bytes : List ℕ) (short : Bool) → ltb (length bytes) board_size ≡ short → cond short false (board_readable bytes) ≡ true → HoldsBoard bytes
holds_by bytes true e is = absurd (false≢true is)
holds_by bytes false e is = record { long = ltb-false (length bytes) board_size e; within = is }

pub holds-board : (bytes : List ℕ) → is_board bytes ≡ true → HoldsBoard bytes
holds-board bytes is = holds_by bytes (ltb (length bytes) board_size) refl is
