-- One step of the board: an operation in; reply, board and event bytes out. Each line is what the contract of that call equates its outcome
-- with; `get_timer_accum`, which refuses nothing, hands back the number alone.
use Rattle.std.specs.Prelude.{List, [], ◌∷◌}
use Rattle.board.specs.declared.Board.{Board}
use Rattle.board.specs.Outcome.{Outcome, timer_accum, accept}
use Rattle.board.specs.Making.{reset}
use Rattle.board.specs.Counting.{counts, load_cycle}
use Rattle.board.specs.Queries.{get_output_state, get_channel_count, does_channel_retrigger, is_dirty, get_timer_accum}
use Rattle.clock.specs.Clock.{catch_up, run}
use Rattle.ports.specs.Gates.{set_channel_gate}
use Rattle.ports.specs.Reads.{read_port}
use Rattle.ports.specs.Writes.{write_port}
use Rattle.owed.specs.Worked.{work_off}
use Rattle.step.specs.Operation.{Operation, WritePort, ReadPort, SetChannelGate, Counts, LoadCycle, CatchUp, Run, Reset, GetOutputState, GetChannelCount, DoesChannelRetrigger, IsDirty, GetTimerAccum, WorkOff}

abbrev pub step : Board → Operation → Outcome
step b (WritePort port byte events place) = write_port b port byte events place
step b (ReadPort port) = read_port b port
step b (SetChannelGate channel level events place) = set_channel_gate b channel level events place
step b (Counts channel number) = counts b channel number
step b (LoadCycle channel) = load_cycle b channel
step b (CatchUp given) = catch_up b given
step b (Run given) = run b given
step b Reset = reset b
step b (GetOutputState channel) = get_output_state b channel
step b (GetChannelCount channel) = get_channel_count b channel
step b (DoesChannelRetrigger channel) = does_channel_retrigger b channel
step b (IsDirty channel) = is_dirty b channel
step b GetTimerAccum = accept (timer_accum (get_timer_accum b)) b
step b (WorkOff stated events place) = work_off b stated events place

-- the board after a list of operations, refused ones included
abbrev pub steps : Board → List Operation → Board
steps b [] = b
steps b (o ∷ os) = steps (step b o).board os
