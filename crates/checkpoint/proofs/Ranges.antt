-- The boards of a trace that can be written down fit their byte form, so the bytes of a checkpoint are readable and spell it. Assumes nothing.
use Prim.Native.Nat.{ℕ, zero, suc}
use mathlib.Core.Bool.{true}
use mathlib.Core.List.{List, [], ◌∷◌}
use mathlib.Core.Path.{◌≡◌}
use lib.ListN.{take}
use Rattle.board_encoding.specs.Stored.{board_bytes}
use Rattle.board_encoding.specs.Loaded.{board_readable, board_in}
use Rattle.board_encoding.specs.Range.{BoardInRange}
use Rattle.board_encoding.proofs.Back.{board-back}
use Rattle.trace.specs.declared.operation.Operation.{Operation}
use Rattle.trace.specs.Trace.{Trace}
use Rattle.trace.specs.Bytes.{AllHold, Writable}
use Rattle.ranges.proofs.Traces.{fresh-in-range, all-in-range}
use Rattle.checkpoint.specs.Boards.{board_after}

hold-first : (n : ℕ) (os : List Operation) → AllHold os → AllHold (take n os)
hold-first zero os h = tt
hold-first (suc n) [] h = tt
hold-first (suc n) (o ∷ os) h = (h.0, hold-first n os h.1)

pub board-in-range : (t : Trace) → Writable t → (n : ℕ) → BoardInRange (board_after t n)
board-in-range t w n = all-in-range _ (fresh-in-range t.model t.divisor w.divisor-fits) (take n t.operations) (hold-first n t.operations w.numbers_fit)

pub board-read-back : (t : Trace) → Writable t → (n : ℕ) → (board_readable (board_bytes (board_after t n)) ≡ true) × (board_in (board_bytes (board_after t n)) ≡ board_after t n)
board-read-back t w n = board-back (board_after t n) (board-in-range t w n)
