-- Which channels' records an operation may change, on a board of a model: those that it names.
use Rattle.std.specs.Prelude.{ℕ, true, ◌≡◌, Option, Some, None}
use Rattle.channel.specs.declared.PitType.{PitType}
use Rattle.control.specs.declared.Command.{Command}
use Rattle.control.specs.declared.Command.TheVariants.{Nothing, LatchCount, SetMode, ReadBack}
use Rattle.control.specs.Control.{names, command_of}
use Rattle.ports.specs.declared.port.Port.{Port}
use Rattle.ports.specs.declared.port.Port.TheVariants as port
use Rattle.ports.specs.Port.{port_of}
use Rattle.step.specs.Operation.{Operation, WritePort, ReadPort, SetChannelGate, Counts, LoadCycle, CatchUp, Run, Reset, GetOutputState, GetChannelCount, DoesChannelRetrigger, IsDirty, GetTimerAccum, WorkOff}

-- "nothing ..., latch, or mode set"; L5: "a read-back that names the channel counts as another command touching it", even where it would change nothing
abbrev pub CommandTouches : Command → ℕ → Type 0
CommandTouches Nothing m = ⊥
CommandTouches (LatchCount n) m = m ≡ n
CommandTouches (SetMode n word) m = m ≡ n
CommandTouches (ReadBack word) m = names word m ≡ true

-- a byte written to a data port or to the command port, where the 8253 knows no read-back
abbrev pub WriteTouches : PitType → Option Port → ℕ → ℕ → Type 0
WriteTouches model (Some (port.Data n)) byte m = m ≡ n
WriteTouches model (Some port.Command) byte m = CommandTouches (command_of model byte) m
WriteTouches model None byte m = ⊥

-- "The command port reads 0."
abbrev pub ReadTouches : Option Port → ℕ → Type 0
ReadTouches (Some (port.Data n)) m = m ≡ n
ReadTouches (Some port.Command) m = ⊥
ReadTouches None m = ⊥

-- "`reset` restores three fresh channels"; a tick of the board is one of each channel; of the queries only "`is_dirty`, which clears the mark", changes a record
abbrev pub Touches : PitType → Operation → ℕ → Type 0
Touches model (WritePort port byte events place) m = WriteTouches model (port_of port) byte m
Touches model (ReadPort port) m = ReadTouches (port_of port) m
Touches model (SetChannelGate n level events place) m = m ≡ n
Touches model (Counts n number) m = m ≡ n
Touches model (LoadCycle n) m = m ≡ n
Touches model (CatchUp given) m = ⊥
Touches model (Run given) m = ⊥
Touches model Reset m = Unit
Touches model (GetOutputState n) m = ⊥
Touches model (GetChannelCount n) m = ⊥
Touches model (DoesChannelRetrigger n) m = ⊥
Touches model (IsDirty n) m = m ≡ n
Touches model GetTimerAccum m = ⊥
Touches model (WorkOff stated events place) m = Unit
