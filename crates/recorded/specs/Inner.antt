-- Not for readers: a turn of a trace with the bytes that are lent for it, as the proofs of `make` say it. proofs/Recorded.antt shows that it comes to `make`.
use Rattle.std.specs.Prelude.{ℕ, List, Bool, true, false, cond, Result, Ok, Err}
use Rattle.refusal.specs.declared.Refusal.{Refusal}
use Rattle.board.specs.declared.Board.{Board}
use Rattle.board.specs.Outcome.{Outcome}
use Rattle.turn.specs.declared.finding.Turn.{Turn}
use Rattle.turn.specs.declared.finding.Turn.TheVariants as turn
use Rattle.turn.specs.Turn.{taken}
use Rattle.recorded.specs.Asked.{two_lent, six_lent}
use Rattle.recorded.specs.Made.{in_six}

-- six bytes are lent for ticks worked off
abbrev pub lends_six : Turn → Bool
lends_six (turn.OnChannel n w) = false
lends_six (turn.Elapse given next defers) = false
lends_six turn.Reset = false
lends_six (turn.WorkOff stated) = true
lends_six (turn.ReadBack word) = false
lends_six turn.Untouched = false
lends_six (turn.Say answer) = false

-- the bytes that a trace lends to a turn, at place 0
abbrev pub lent_to : Result Turn Refusal → List ℕ
lent_to (Ok t) = cond (lends_six t) six_lent two_lent
lent_to (Err refusal) = two_lent

-- what a turn of a trace comes to, with the lent bytes after it in six places
abbrev pub turned_in_six : Board → Result Turn Refusal → Outcome
turned_in_six b t = in_six (taken b t (lent_to t) 0)
