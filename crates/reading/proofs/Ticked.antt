-- Ticks of the board, as a channel that is read sees them: so many ticks are as many counts of it as they take, unless one loads it. Assumes nothing.
use Prim.Native.Nat.{ℕ, zero, suc, ◌<◌}
use mathlib.Core.Bool.{false}
use mathlib.Core.Path.{◌≡◌}
use native.Mathlib.Omega.{arith}
use Rattle.numbers.specs.Times.{times}
use Rattle.channel.specs.declared.Channel.{Channel}
use Rattle.tick.specs.Taken.{taken}
use Rattle.tick.specs.Loads.{loads}
use Rattle.board.specs.declared.Board.{Board}
use Rattle.board.specs.Board.{channel_at}
use Rattle.owed.specs.BoardTick.{board_tick}
use Rattle.owed.proofs.Nth.{next-tick}
use Rattle.reading.specs.Passing.{Unloaded}
use Rattle.reading.specs.Counts.{taken_in}
use Rattle.reading.proofs.Counted.{Counted, counted_none, counted-when, counted-then, counted-tick}

module _ (b : Board) (i : ℕ) (on : i < 3) where
  abbrev now : ℕ → Channel
  now k = channel_at (times k board_tick b) i

  one-tick : (k : ℕ) → Counted (loads b.model (now k) ≡ false) (taken (now k)) (now k) (now (suc k))
  one-tick k = rw (next-tick b i on k) (counted-tick b.model (now k))

  pub ticks-counted : (k : ℕ) → Counted (Unloaded i b k) (taken_in i b k) (channel_at b i) (now k)
  ticks-counted zero = counted_none (channel_at b i)
  ticks-counted (suc k) =
      counted-when (λ unloaded. ((λ j h. unloaded j (omega arith)), unloaded k (omega arith)))
      (counted-then (taken_in i b k) (taken (now k)) (ticks-counted k) (one-tick k))
