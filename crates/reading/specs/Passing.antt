-- Demand 3, what may come between the steps of a reading: "further counts after the latch, gate changes, data writes to it, and anything on the other channels; no
-- other command, load cycle, read or reset touches it."; and by 02, L1, ticks worked off: before the latch none that loads the channel, after it any.
use Rattle.std.specs.Prelude.{ℕ, ◌<◌, false, List, [], ◌∷◌, ◌≡◌, Option, Some, None}
use Rattle.numbers.specs.Times.{times}
use Rattle.channel.specs.declared.PitType.{PitType}
use Rattle.control.specs.Control.{command_of}
use Rattle.tick.specs.Loads.{loads}
use Rattle.board.specs.declared.Board.{Board}
use Rattle.board.specs.Board.{channel_at}
use Rattle.ports.specs.declared.port.Port.{Port}
use Rattle.ports.specs.declared.port.Port.TheVariants as port
use Rattle.ports.specs.Port.{port_of}
use Rattle.owed.specs.BoardTick.{board_tick}
use Rattle.step.specs.Operation.{Operation, WritePort, ReadPort, SetChannelGate, Counts, LoadCycle, CatchUp, Run, Reset, GetOutputState, GetChannelCount, DoesChannelRetrigger, IsDirty, GetTimerAccum, WorkOff}
use Rattle.step.specs.Step.{step}
use Rattle.step.specs.Touched.{CommandTouches, ReadTouches}
use Rattle.reading.specs.Counts.{ticks_made}

-- a data byte to any channel; a control byte that neither latches channel i, nor sets its mode, nor reads it back, on a board of a model. (An unknown port is refused, so no accepted
-- call is one.)
abbrev pub MayWrite : PitType → ℕ → Option Port → ℕ → Type 0
MayWrite model i (Some (port.Data n)) byte = Unit
MayWrite model i (Some port.Command) byte = CommandTouches (command_of model byte) i → ⊥
MayWrite model i None byte = Unit

-- what an accepted call may do on the board while channel i is being read; of a refused one nothing is asked (`Reading`)
abbrev pub MayPass : PitType → ℕ → Operation → Type 0
MayPass model i (WritePort port byte events place) = MayWrite model i (port_of port) byte
MayPass model i (ReadPort port) = ReadTouches (port_of port) i → ⊥
MayPass model i (SetChannelGate channel level events place) = Unit
MayPass model i (Counts channel number) = Unit
MayPass model i (LoadCycle channel) = i ≡ channel → ⊥
MayPass model i (CatchUp given) = Unit
MayPass model i (Run given) = Unit
MayPass model i Reset = ⊥
MayPass model i (GetOutputState channel) = Unit
MayPass model i (GetChannelCount channel) = Unit
MayPass model i (DoesChannelRetrigger channel) = Unit
MayPass model i (IsDirty channel) = Unit
MayPass model i GetTimerAccum = Unit
MayPass model i (WorkOff stated events place) = Unit

abbrev pub AllMayPass : PitType → ℕ → List Operation → Type 0
AllMayPass model i [] = Unit
AllMayPass model i (o ∷ os) = MayPass model i o × AllMayPass model i os

-- 02, L1: demand 3 "holds between load cycles": none of the next ticks of the board, so many, loads channel i
abbrev pub Unloaded : ℕ → Board → ℕ → Type 0
Unloaded i b ticks = (k : ℕ) → k < ticks → loads b.model (channel_at (times k board_tick b) i) ≡ false

-- .. none that an operation makes. (A refused one makes none, and a load cycle made by hand may not pass at all.)
abbrev pub NoLoad : ℕ → Board → Operation → Type 0
NoLoad i b o = Unloaded i b (ticks_made b o)

-- .. none of a list's, from a board on
abbrev pub NoLoads : ℕ → Board → List Operation → Type 0
NoLoads i b [] = Unit
NoLoads i b (o ∷ os) = NoLoad i b o × NoLoads i (step b o).board os
