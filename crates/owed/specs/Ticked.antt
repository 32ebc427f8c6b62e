-- Ticks worked off on a board's parts, and what they come to on a board.
use Rattle.std.specs.Prelude.{ℕ, List, ◌≡◌, Result}
use Rattle.refusal.specs.declared.Refusal.{Refusal}
use Rattle.channel.specs.declared.Channel.{Channel}
use Rattle.channel.specs.declared.PitType.{PitType}
use Rattle.time.specs.declared.TimerTicks.{TimerTicks}
use Rattle.board.specs.declared.Board.{Board}
use Rattle.board.specs.declared.Answer.{Answer}
use Rattle.board.specs.Board.{owing}
use Rattle.board.specs.Outcome.{Outcome}
use Rattle.board.specs.Answer.{reply_of}

-- a board with these channels, this model and so many ticks owed
pub record Has (b : Board) (channels : List Channel) (model : PitType) (owed : ℕ) : Type 0 where
  pub channels-are : b.channels ≡ channels
  pub model_is : b.model ≡ model
  pub owed-is : b.owed.0 ≡ owed

-- what the code answers, and the parts that it leaves, put back into the board
abbrev pub ticked_on : Board → Result Answer Refusal → List Channel → TimerTicks → List ℕ → Outcome
ticked_on b answer channels owed events = record { reply = reply_of answer; board = owing b owed.0 channels; events = events }
