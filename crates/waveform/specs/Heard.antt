-- What a channel of the board hears of a call, in the sheets' words: a control word, a byte, a level at its gate, ticks. What the sheets' counter makes of it, with
-- our departures put in, is agreement's (specs/Watching.antt there).
use Rattle.std.specs.Prelude.{ℕ, ◌+◌, ◌<◌, Bool, true, false, cond, List, [], ◌∷◌, eqb}
use Rattle.numbers.specs.Times.{times}
use Rattle.board.specs.declared.Board.{Board}
use Rattle.step.specs.Operation.{Operation, WritePort, ReadPort, SetChannelGate, Counts, LoadCycle, CatchUp, Run, Reset, GetOutputState, GetChannelCount, DoesChannelRetrigger, IsDirty, GetTimerAccum, WorkOff}
use Rattle.step.specs.Accepted.{unless_refused}
use Rattle.step.specs.Step.{step}
use Rattle.step.specs.Owed.{made_by}
use Rattle.sheet.specs.ControlByte.{Request, no_counter, latch_counter, program, request_of}
use Rattle.sheet.specs.Ticking.{Chip}
use Rattle.agreement.specs.Words.{sheet_chip}
use Rattle.agreement.specs.Watching.{Watch, watch_program, watch_reset, watch_tick, watch_gate, watch_write, watch_counts, watch_cycle}

-- C1: a control byte, as the sheet reads it. A latch is nothing to the output and the count (R2: "counting goes on underneath")
abbrev pub heard_control : ℕ → Request → Watch → Watch
heard_control i no_counter w = w
heard_control i (latch_counter n) w = w
heard_control i (program n access mode bcd) w = cond (eqb n i) (watch_program w access mode bcd) w

-- 01: "The data port numbers are the IBM PC's: 0x40, 0x41, 0x42."; 0x43 is the command port
abbrev pub heard_byte : ℕ → Chip → Bool → ℕ → ℕ → Watch → Watch
heard_byte i chip defer port byte w =
    cond (eqb port (0x40 + i)) (watch_write chip defer w byte) (cond (eqb port 0x43) (heard_control i (request_of byte) w) w)

-- 01: "Catch-up then sets .. the defer flag to true"; nothing else sets it, and nothing clears it. So whether the board defers is told by the calls
abbrev pub catches_up : Operation → Bool
catches_up (WritePort port byte events place) = false
catches_up (ReadPort port) = false
catches_up (SetChannelGate channel level events place) = false
catches_up (Counts channel number) = false
catches_up (LoadCycle channel) = false
catches_up (CatchUp given) = true
catches_up (Run given) = false
catches_up Reset = false
catches_up (GetOutputState channel) = false
catches_up (GetChannelCount channel) = false
catches_up (DoesChannelRetrigger channel) = false
catches_up (IsDirty channel) = false
catches_up GetTimerAccum = false
catches_up (WorkOff stated events place) = false

-- what channel i of a board hears of an accepted call, where the board defers or does not
abbrev pub heard_of : ℕ → Board → Bool → Operation → Watch → Watch
heard_of i b defers (WritePort port byte events place) w = heard_byte i (sheet_chip b.model) defers port byte w
heard_of i b defers (ReadPort port) w = w
heard_of i b defers (SetChannelGate channel level events place) w = cond (eqb channel i) (watch_gate w level) w
heard_of i b defers (Counts channel number) w = cond (eqb channel i) (watch_counts w number) w
heard_of i b defers (LoadCycle channel) w = cond (eqb channel i) (watch_cycle w) w
heard_of i b defers (CatchUp given) w = w
heard_of i b defers (Run given) w = w
heard_of i b defers Reset w = watch_reset w
heard_of i b defers (GetOutputState channel) w = w
heard_of i b defers (GetChannelCount channel) w = w
heard_of i b defers (DoesChannelRetrigger channel) w = w
heard_of i b defers (IsDirty channel) w = w
heard_of i b defers GetTimerAccum w = w
heard_of i b defers (WorkOff stated events place) w = times (made_by (step b (WorkOff stated events place)).reply) (watch_tick (sheet_chip b.model)) w

-- a refused call is not heard
abbrev pub hears : ℕ → Board → Bool → Operation → Watch → Watch
hears i b defers o w = unless_refused (step b o).reply w (heard_of i b defers o w)

abbrev pub defers_after : Board → Operation → Bool → Bool
defers_after b o defers = unless_refused (step b o).reply defers (cond (catches_up o) true defers)

-- .. over a list of calls, each when its turn comes
abbrev pub defers_over : Board → List Operation → Bool → Bool
defers_over b [] defers = defers
defers_over b (o ∷ os) defers = defers_over (step b o).board os (defers_after b o defers)

abbrev pub watch_over : ℕ → Board → List Operation → Bool → Watch → Watch
watch_over i b [] defers w = w
watch_over i b (o ∷ os) defers w = watch_over i (step b o).board os (defers_after b o defers) (hears i b defers o w)

-- a port is eight bits wide
abbrev pub IsByte : Operation → Type 0
IsByte (WritePort port byte events place) = byte < 256
IsByte (ReadPort port) = Unit
IsByte (SetChannelGate channel level events place) = Unit
IsByte (Counts channel number) = Unit
IsByte (LoadCycle channel) = Unit
IsByte (CatchUp given) = Unit
IsByte (Run given) = Unit
IsByte Reset = Unit
IsByte (GetOutputState channel) = Unit
IsByte (GetChannelCount channel) = Unit
IsByte (DoesChannelRetrigger channel) = Unit
IsByte (IsDirty channel) = Unit
IsByte GetTimerAccum = Unit
IsByte (WorkOff stated events place) = Unit

abbrev pub OnlyBytes : List Operation → Type 0
OnlyBytes [] = Unit
OnlyBytes (o ∷ os) = IsByte o × OnlyBytes os
