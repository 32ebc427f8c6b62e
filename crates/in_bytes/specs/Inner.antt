-- Not for readers: how the work on a board in lent bytes is divided. The part of the board that an operation is about says nothing new of the operation: proofs/Part.antt
-- shows that nothing else is meant than the step of the board. What is left in bytes is what `making` (Called.antt) says.
use Rattle.std.specs.Prelude.{ℕ, ◌<◌, Bool, false, cond, List, ◌≡◌, ltb, length, Result, Ok, Err}
use Rattle.refusal.specs.declared.Refusal.{Refusal}
use Rattle.refusal.specs.declared.Refusal.TheVariants.{ChannelAbove2}
use Rattle.refusal.specs.Refusal.{refusal_number}
use Rattle.refusal.specs.Reply.{accepted}
use Rattle.channel.specs.declared.PitType.{PitType}
use Rattle.channel.specs.declared.PitType.TheVariants.{Model8253}
use Rattle.channel.specs.declared.queries.DirtyAnswer.{DirtyAnswer}
use Rattle.channel.specs.Queries as channel
use Rattle.board.specs.declared.Board.{Board}
use Rattle.board.specs.Board.{channel_at, with_channel}
use Rattle.board.specs.declared.Answer.{Answer}
use Rattle.board.specs.Answer.{reply_of}
use Rattle.board.specs.Outcome.{Value, Outcome, refuse, output_state, count_value, retriggers, dirty_marks, timer_accum}
use Rattle.board.specs.Queries.{get_timer_accum}
use Rattle.board.specs.Making.{new}
use Rattle.board_encoding.specs.Places.{board_size}
use Rattle.board_encoding.specs.Loaded.{board_readable, board_in}
use Rattle.ports.specs.Port.{port_of}
use Rattle.turn.specs.declared.finding.Turn.{Turn}
use Rattle.turn.specs.declared.finding.Turn.TheVariants as turn
use Rattle.turn.specs.Finding.{write_turn, read_turn, gate_turn, counts_turn, load_cycle_turn, catch_up_turn, run_turn, reset_turn}
use Rattle.turn.specs.Inner.{OnBoard}
use Rattle.turn.specs.Turn.{turned}
use Rattle.board_operation.specs.declared.Operation.{Operation}
use Rattle.board_operation.specs.declared.Operation.TheVariants.{WritePort, ReadPort, SetChannelGate, Counts, LoadCycle, CatchUp, Run, Reset, GetOutputState, GetChannelCount, DoesChannelRetrigger, IsDirty, GetTimerAccum, WorkOff}
use Rattle.board_operation.specs.declared.answering.Numbers.{Numbers}
use Rattle.board_operation.specs.Made.{Outcome-in-numbers, numbers_of}
use Rattle.in_bytes.specs.declared.finding.Query.{Query}
use Rattle.in_bytes.specs.declared.finding.Query.TheVariants as query
use Rattle.in_bytes.specs.declared.finding.Part.{Part}
use Rattle.in_bytes.specs.declared.finding.Part.TheVariants.{Turned, Ask, TimerAccum}
use Rattle.in_bytes.specs.Called.{stored}

-- 2 "channel above 2"
abbrev pub ask_part : ℕ → Query → Result Part Refusal
ask_part channel q = cond (ltb 2 channel) (Err ChannelAbove2) (Ok (Ask channel q))

-- a turn that is found
abbrev pub turned_part : Result Turn Refusal → Result Part Refusal
turned_part (Ok t) = Ok (Turned t)
turned_part (Err refusal) = Err refusal

-- the part of each operation, for a board of a model that owes ticks or owes none
unfoldable pub part_of : Bool → PitType → Operation → Result Part Refusal
part_of owing model (WritePort port byte) = turned_part (write_turn owing model (port_of port) byte)
part_of owing model (ReadPort port) = turned_part (read_turn (port_of port))
part_of owing model (SetChannelGate channel level) = turned_part (gate_turn owing channel level)
part_of owing model (Counts channel number) = turned_part (counts_turn channel number)
part_of owing model (LoadCycle channel) = turned_part (load_cycle_turn channel)
part_of owing model (CatchUp given) = Ok (Turned (catch_up_turn given))
part_of owing model (Run given) = Ok (Turned (run_turn given))
part_of owing model Reset = turned_part (reset_turn owing)
part_of owing model (GetOutputState channel) = ask_part channel query.OutputState
part_of owing model (GetChannelCount channel) = ask_part channel query.ChannelCount
part_of owing model (DoesChannelRetrigger channel) = ask_part channel query.Retriggers
part_of owing model (IsDirty channel) = ask_part channel query.IsDirty
part_of owing model GetTimerAccum = Ok TimerAccum
part_of owing model (WorkOff stated) = Ok (Turned (turn.WorkOff stated))

-- what is asked of a channel leaves the board and the event bytes as they are ..
abbrev pub answers : Board → Value → List ℕ → Outcome
answers b value events = record { reply = accepted value; board = b; events = events }

-- .. but for the mark of a change
abbrev pub cleared : Board → ℕ → DirtyAnswer → List ℕ → Outcome
cleared b n d events = answers (with_channel b n d.channel) (dirty_marks d.dirty d.counting d.ticked) events

abbrev pub query_answered : Board → ℕ → Query → List ℕ → Outcome
query_answered b n query.OutputState events = answers b (output_state (channel.get_output_state (channel_at b n))) events
query_answered b n query.ChannelCount events = answers b (count_value (channel.get_channel_count (channel_at b n))) events
query_answered b n query.Retriggers events = answers b (retriggers (channel.does_channel_retrigger (channel_at b n))) events
query_answered b n query.IsDirty events = cleared b n (channel.is_dirty (channel_at b n)) events

-- what is done to the part, on a board with these event bytes lent
abbrev pub parted : Board → Part → List ℕ → ℕ → Outcome
parted b (Turned t) events place = turned b t events place
parted b (Ask n q) events place = query_answered b n q events
parted b TimerAccum events place = answers b (timer_accum (get_timer_accum b)) events

-- .. or where none is found: the board and the event bytes stay
abbrev pub parted_or : Board → Result Part Refusal → List ℕ → ℕ → Outcome
parted_or b (Ok part) events place = parted b part events place
parted_or b (Err refusal) events place = refuse (refusal_number refusal) b events

-- a part's channel is one of the board's
abbrev pub OnPart : Part → Type 0
OnPart (Turned t) = OnBoard t
OnPart (Ask n q) = n < 3
OnPart TimerAccum = Unit

-- what is promised of the part that the code finds
abbrev pub OnFound : Result Part Refusal → Type 0
OnFound (Ok part) = OnPart part
OnFound (Err refusal) = Unit

abbrev pub FindsPart : Result Part Refusal → Result Part Refusal → Type 0
FindsPart p found = (found ≡ p) × OnFound found

-- an answer in numbers, the bytes of the board and those of the events
pub record InBytes : Type 0 where
  pub numbers : Numbers
  pub bytes : List ℕ
  pub events : List ℕ

-- what the code answers, with the lent bytes at its end
abbrev pub told : Numbers → List ℕ → List ℕ → InBytes
told numbers bytes events = record { numbers = numbers; bytes = bytes; events = events }

-- .. where its answer is not in numbers yet
abbrev pub said : Result Answer Refusal → List ℕ → List ℕ → InBytes
said answer bytes events = told (numbers_of (reply_of answer)) bytes events

-- what an outcome leaves in bytes
abbrev pub written : Outcome → List ℕ → InBytes
written o bytes = told (numbers_of o.reply) (stored o.board bytes) o.events

-- .. and an operation whose answer is in numbers already
abbrev pub operated : Outcome-in-numbers → List ℕ → InBytes
operated o bytes = told o.numbers (stored o.board bytes) o.events

-- the bytes of a board are there, and readable
abbrev pub is_board : List ℕ → Bool
is_board bytes = cond (ltb (length bytes) board_size) false (board_readable bytes)

-- what the code loads of any bytes: a fresh board of those that are none
abbrev pub board_found : List ℕ → Board
board_found bytes = cond (is_board bytes) (board_in bytes) (new Model8253 0).board
