-- docs/ENCODING.md, "An operation on a board": the board and the event bytes that it leaves, and the numbers that it answers. An operation is one step of the
-- board (step/specs/Step.antt).
use Rattle.std.specs.Prelude.{ℕ, List}
use Rattle.numbers.specs.Flags.{flag_number}
use Rattle.refusal.specs.Reply.{Reply, refused, accepted}
use Rattle.latch.specs.Label.{half_number}
use Rattle.board.specs.declared.Board.{Board}
use Rattle.board.specs.declared.PortRead.{PortRead}
use Rattle.board.specs.Outcome.{Outcome, Value, done, new_place, byte, ticks, output_state, channel_count, retriggers, dirty_marks, timer_accum, worked}
use Rattle.step.specs.Operation as call
use Rattle.step.specs.Step.{step}
use Rattle.board_operation.specs.declared.Operation.{Operation}
use Rattle.board_operation.specs.declared.Operation.TheVariants.{WritePort, ReadPort, SetChannelGate, Counts, LoadCycle, CatchUp, Run, Reset, GetOutputState, GetChannelCount, DoesChannelRetrigger, IsDirty, GetTimerAccum, WorkOff}
use Rattle.board_operation.specs.declared.answering.Numbers.{Numbers}

-- the call of the board
abbrev pub asked : Operation → List ℕ → ℕ → call.Operation
asked (WritePort port x) events place = call.WritePort port x events place
asked (ReadPort port) events place = call.ReadPort port
asked (SetChannelGate channel level) events place = call.SetChannelGate channel level events place
asked (Counts channel number) events place = call.Counts channel number
asked (LoadCycle channel) events place = call.LoadCycle channel
asked (CatchUp given) events place = call.CatchUp given.0
asked (Run given) events place = call.Run given.0
asked Reset events place = call.Reset
asked (GetOutputState channel) events place = call.GetOutputState channel
asked (GetChannelCount channel) events place = call.GetChannelCount channel
asked (DoesChannelRetrigger channel) events place = call.DoesChannelRetrigger channel
asked (IsDirty channel) events place = call.IsDirty channel
asked GetTimerAccum events place = call.GetTimerAccum
asked (WorkOff stated) events place = call.WorkOff stated events place

-- "Only codes 1, 3 and 9 look at the event bytes and the place": the bytes before a call, and those after the step
abbrev pub events_after : Operation → List ℕ → List ℕ → List ℕ
events_after (WritePort port x) events stepped = stepped
events_after (ReadPort port) events stepped = events
events_after (SetChannelGate channel level) events stepped = stepped
events_after (Counts channel number) events stepped = events
events_after (LoadCycle channel) events stepped = events
events_after (CatchUp given) events stepped = events
events_after (Run given) events stepped = events
events_after Reset events stepped = events
events_after (GetOutputState channel) events stepped = events
events_after (GetChannelCount channel) events stepped = events
events_after (DoesChannelRetrigger channel) events stepped = events
events_after (IsDirty channel) events stepped = events
events_after GetTimerAccum events stepped = events
events_after (WorkOff stated) events stepped = stepped

abbrev pub numbered : ℕ → ℕ → ℕ → ℕ → Numbers
numbered refusal a b c = record { refusal = refusal; first = a; second = b; third = c }

-- of a read: "the byte read", "its half: 0 neither, 1 low, 2 high", "1 if it was held"
abbrev pub read_numbers : PortRead → Numbers
read_numbers r = numbered 0 r.byte (half_number r.label.half) (flag_number r.label.held)

-- the table of answers; "What an operation does not answer is 0."
abbrev pub value_numbers : Value → Numbers
value_numbers done = numbered 0 0 0 0
value_numbers (new_place p) = numbered 0 p 0 0
value_numbers (byte r) = read_numbers r
value_numbers (ticks n) = numbered 0 n 0 0
value_numbers (output_state level) = numbered 0 (flag_number level) 0 0
value_numbers (channel_count register element counting) = numbered 0 register element (flag_number counting)
value_numbers (retriggers answer) = numbered 0 (flag_number answer) 0 0
value_numbers (dirty_marks dirty counting ticked) = numbered 0 (flag_number dirty) (flag_number counting) (flag_number ticked)
value_numbers (timer_accum n) = numbered 0 n 0 0
value_numbers (worked n p) = numbered 0 p n 0

abbrev pub numbers_of : Reply Value → Numbers
numbers_of (refused number) = numbered number 0 0 0
numbers_of (accepted value) = value_numbers value

-- what an operation comes to: its numbers, the board, and the lent event bytes
pub record Outcome-in-numbers : Type 0 where
  pub numbers : Numbers
  pub board : Board
  pub events : List ℕ

abbrev pub in_numbers : Operation → List ℕ → Outcome → Outcome-in-numbers
in_numbers op events o = record { numbers = numbers_of o.reply; board = o.board; events = events_after op events o.events }

unfoldable pub operate : Board → Operation → List ℕ → ℕ → Outcome-in-numbers
operate b op events place = in_numbers op events (step b (asked op events place))
