-- A turn on a channel of the board is done to it. Assumes nothing.
use Prim.Native.Nat.{ℕ}
use mathlib.Core.List.{List}
use mathlib.Core.Path.{◌≡◌, refl}
use borrow.Author.Tests.{lt-ltb}
use Rattle.board.specs.declared.Board.{Board}
use Rattle.turn.specs.declared.finding.Turn.{Turn}
use Rattle.turn.specs.declared.finding.Turn.TheVariants as turn
use Rattle.turn.specs.Turn.{turned, done_on}
use Rattle.turn.specs.Inner.{OnBoard}

pub done_there : (b : Board) (t : Turn) (events : List ℕ) (place : ℕ) → OnBoard t → done_on b t events place ≡ turned b t events place
done_there b (turn.OnChannel n w) events place there = simp (lt-ltb n 3 there)
done_there b (turn.Elapse given next defers) events place there = refl
done_there b turn.Reset events place there = refl
done_there b (turn.WorkOff stated) events place there = refl
done_there b (turn.ReadBack word) events place there = refl
done_there b turn.Untouched events place there = refl
done_there b (turn.Say answer) events place there = refl
