-- What a call leaves of one channel, or of all three, put back into a board.
use Rattle.std.specs.Prelude.{ℕ, List, Result}
use Rattle.refusal.specs.declared.Refusal.{Refusal}
use Rattle.channel.specs.declared.Channel.{Channel}
use Rattle.board.specs.declared.Board.{Board}
use Rattle.board.specs.declared.Answer.{Answer}
use Rattle.board.specs.Board.{with_channel, with_channels}
use Rattle.board.specs.Outcome.{Outcome}
use Rattle.board.specs.Answer.{reply_of}

-- what the code answers, with the record at place n and the lent bytes at the call's end
abbrev pub settled_on : Board → ℕ → Result Answer Refusal → Channel → List ℕ → Outcome
settled_on b n answer c events = record { reply = reply_of answer; board = with_channel b n c; events = events }

-- .. with all three records
abbrev pub read_on : Board → Result Answer Refusal → List Channel → List ℕ → Outcome
read_on b answer channels events = record { reply = reply_of answer; board = with_channels b channels; events = events }
