-- Not for readers: how the finders' contracts and the laws in proofs/ say that a turn's channel is there, that a board owes ticks, and that a call lends no bytes.
use Rattle.std.specs.Prelude.{ℕ, ◌<◌, Bool, not, List, [], ◌≡◌, eqb, Result, Ok, Err}
use Rattle.refusal.specs.declared.Refusal.{Refusal}
use Rattle.board.specs.declared.Board.{Board}
use Rattle.board.specs.Outcome.{Outcome}
use Rattle.turn.specs.declared.finding.Turn.{Turn}
use Rattle.turn.specs.declared.finding.Turn.TheVariants as turn
use Rattle.turn.specs.Turn.{with_events, taken}

-- ticks are owed
abbrev pub owes : Board → Bool
owes b = not (eqb b.owed.0 0)

-- a turn's channel is one of the board's
abbrev pub OnBoard : Turn → Type 0
OnBoard (turn.OnChannel n w) = n < 3
OnBoard (turn.Elapse given next defers) = Unit
OnBoard turn.Reset = Unit
OnBoard (turn.WorkOff stated) = Unit
OnBoard (turn.ReadBack word) = Unit
OnBoard turn.Untouched = Unit
OnBoard (turn.Say answer) = Unit

-- what is promised of the turn that the code finds: it is this one, and its channel is one of the board's
abbrev pub FindsTurn : Turn → Turn → Type 0
FindsTurn t found = (found ≡ t) × OnBoard found

-- .. or that it is refused
abbrev pub Reaches : Result Turn Refusal → Type 0
Reaches (Ok t) = OnBoard t
Reaches (Err refusal) = Unit

abbrev pub Finds : Result Turn Refusal → Result Turn Refusal → Type 0
Finds t found = (found ≡ t) × Reaches found

-- a call that lends no bytes comes to a turn, whatever bytes the turn is lent
pub record Bare (b : Board) (o : Outcome) (t : Result Turn Refusal) : Type 0 where
  pub same : (events : List ℕ) (place : ℕ) → with_events events o ≡ taken b t events place
  pub none : o.events ≡ []
