-- Demand 3's n: "make n counts", in as many calls as one likes; 02, L1: "a tick that takes k from a channel being k counts of it".
use Rattle.std.specs.Prelude.{ℕ, zero, suc, ◌+◌, cond, List, [], ◌∷◌, eqb}
use Rattle.numbers.specs.Times.{times}
use Rattle.tick.specs.Taken.{taken}
use Rattle.board.specs.declared.Board.{Board}
use Rattle.board.specs.Board.{channel_at}
use Rattle.owed.specs.BoardTick.{board_tick}
use Rattle.step.specs.Operation.{Operation, WritePort, ReadPort, SetChannelGate, Counts, LoadCycle, CatchUp, Run, Reset, GetOutputState, GetChannelCount, DoesChannelRetrigger, IsDirty, GetTimerAccum, WorkOff, kind_of}
use Rattle.step.specs.Step.{step}
use Rattle.step.specs.Time.{if_accepted}
use Rattle.step.specs.Owed.{made_by}

-- the counts that the next ticks of the board, so many, take from channel i
abbrev pub taken_in : ℕ → Board → ℕ → ℕ
taken_in i b zero = 0
taken_in i b (suc k) = taken_in i b k + taken (channel_at (times k board_tick b) i)

-- the counts that an accepted operation makes by hand on channel i
abbrev pub hand_in : ℕ → Operation → ℕ
hand_in i (WritePort port byte events place) = 0
hand_in i (ReadPort port) = 0
hand_in i (SetChannelGate channel level events place) = 0
hand_in i (Counts channel number) = cond (eqb channel i) number 0
hand_in i (LoadCycle channel) = 0
hand_in i (CatchUp given) = 0
hand_in i (Run given) = 0
hand_in i Reset = 0
hand_in i (GetOutputState channel) = 0
hand_in i (GetChannelCount channel) = 0
hand_in i (DoesChannelRetrigger channel) = 0
hand_in i (IsDirty channel) = 0
hand_in i GetTimerAccum = 0
hand_in i (WorkOff stated events place) = 0

-- the ticks that an operation makes
abbrev pub ticks_made : Board → Operation → ℕ
ticks_made b o = cond (kind_of o).works (made_by (step b o).reply) 0

-- the counts that an accepted operation makes on channel i: by its ticks, or by hand
abbrev pub counts_by : ℕ → Board → Operation → ℕ
counts_by i b o = cond (kind_of o).works (taken_in i b (ticks_made b o)) (hand_in i o)

-- .. and a refused one makes none
abbrev pub counts_in : ℕ → Board → Operation → ℕ
counts_in i b o = if_accepted (step b o).reply (counts_by i b o)

-- the sum over a list, from a board on
abbrev pub counts_on : ℕ → Board → List Operation → ℕ
counts_on i b [] = 0
counts_on i b (o ∷ os) = counts_in i b o + counts_on i (step b o).board os
