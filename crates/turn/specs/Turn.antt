-- An operation whose port or channel is found, and what it comes to on a board: the form in which a board is changed part by part, whoever owns it. It says nothing new:
-- proofs/Turn.antt shows that nothing else is meant than the calls of the board.
use Rattle.std.specs.Prelude.{ℕ, Bool, true, ltb, cond, ◌||◌, List, ◌≡◌, Result, Ok, Err}
use Rattle.numbers.specs.Times.{times}
use Rattle.channel.specs.declared.Channel.{Channel}
use Rattle.channel.specs.declared.PitType.{PitType}
use Rattle.count.specs.Count.{count}
use Rattle.load.specs.Cycle.{load_cycle}
use Rattle.gate.specs.Gate.{set_gate}
use Rattle.refusal.specs.declared.Refusal.{Refusal}
use Rattle.refusal.specs.Refusal.{refusal_number}
use Rattle.refusal.specs.Reply.{accepted}
use Rattle.board.specs.declared.Board.{Board}
use Rattle.board.specs.Board.{channel_at, with_channel}
use Rattle.board.specs.Outcome.{Outcome, done, refuse, accept}
use Rattle.board.specs.Making.{restored}
use Rattle.board.specs.Answer.{value_of}
use Rattle.clock.specs.Clock.{elapse}
use Rattle.ports.specs.Settle.{settle, untouched}
use Rattle.ports.specs.Reads.{data_read}
use Rattle.ports.specs.Writes.{latch_count, set_mode, data_write}
use Rattle.ports.specs.ReadBacks.{read_back_write}
use Rattle.owed.specs.Worked.{work_off}
use Rattle.turn.specs.declared.finding.Work.{Work}
use Rattle.turn.specs.declared.finding.Work.TheVariants as work
use Rattle.turn.specs.declared.finding.Turn.{Turn}
use Rattle.turn.specs.declared.finding.Turn.TheVariants as turn

-- an outcome with other event bytes beside it: those of a call that does not look at them
abbrev pub with_events : List ℕ → Outcome → Outcome
with_events events o = record { reply = o.reply; board = o.board; events = events }

-- the work on channel n of a board, with the lent event bytes and the place in them
abbrev pub work_on : Board → ℕ → Work → List ℕ → ℕ → Outcome
work_on b n (work.Write byte) events place = data_write b n byte events place
work_on b n work.Latch events place = latch_count b n events place
work_on b n (work.SetMode word) events place = set_mode b n word events place
work_on b n (work.SetGate level) events place = settle b n (set_gate (channel_at b n) level) events place
work_on b n work.Read events place = with_events events (data_read b n)
work_on b n (work.Counts number) events place = with_events events (accept done (with_channel b n (times number count (channel_at b n))))
work_on b n work.LoadCycle events place = with_events events (accept done (with_channel b n (load_cycle (channel_at b n))))

-- what a turn comes to on a board
abbrev pub turned : Board → Turn → List ℕ → ℕ → Outcome
turned b (turn.OnChannel n w) events place = work_on b n w events place
turned b (turn.Elapse given next defers) events place = with_events events (elapse b given.0 next.0 (defers || b.defer))
turned b turn.Reset events place = with_events events (accept done (restored b))
turned b (turn.WorkOff stated) events place = work_off b stated events place
turned b (turn.ReadBack word) events place = read_back_write b word events place
turned b turn.Untouched events place = untouched b events place
turned b (turn.Say answer) events place = record { reply = accepted (value_of answer); board = b; events = events }

-- whether a turn's channel is one of the board's: no finder finds another
abbrev pub on_board : Turn → Bool
on_board (turn.OnChannel n w) = ltb n 3
on_board (turn.Elapse given next defers) = true
on_board turn.Reset = true
on_board (turn.WorkOff stated) = true
on_board (turn.ReadBack word) = true
on_board turn.Untouched = true
on_board (turn.Say answer) = true

-- a turn done to a board: "channel above 2" is refused, and the board stays
abbrev pub done_on : Board → Turn → List ℕ → ℕ → Outcome
done_on b t events place = cond (on_board t) (turned b t events place) (refuse 2 b events)

-- a turn that is found, or why none is: "Each returns its number and the same board"
abbrev pub taken : Board → Result Turn Refusal → List ℕ → ℕ → Outcome
taken b (Ok t) events place = turned b t events place
taken b (Err refusal) events place = refuse (refusal_number refusal) b events

-- a board with this record at place n, this model and this defer flag
pub record HasChannel (b : Board) (n : ℕ) (c : Channel) (model : PitType) (defer : Bool) : Type 0 where
  pub channel-is : channel_at b n ≡ c
  pub model_is : b.model ≡ model
  pub defer-is : b.defer ≡ defer
