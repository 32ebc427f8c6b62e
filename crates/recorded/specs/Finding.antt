-- The turn of a recorded operation.
use Rattle.std.specs.Prelude.{Bool, Result, Ok}
use Rattle.refusal.specs.declared.Refusal.{Refusal}
use Rattle.channel.specs.declared.PitType.{PitType}
use Rattle.ports.specs.Port.{port_of}
use Rattle.trace.specs.declared.operation.Operation.{Operation}
use Rattle.trace.specs.declared.operation.Operation.TheVariants as recorded
use Rattle.turn.specs.declared.finding.Turn.{Turn}
use Rattle.turn.specs.declared.finding.Turn.TheVariants.{WorkOff}
use Rattle.turn.specs.Finding.{write_turn, read_turn, gate_turn, counts_turn, load_cycle_turn, catch_up_turn, run_turn, reset_turn}

-- for a board of a model that owes ticks, or owes none
unfoldable pub turn_of : Bool → PitType → Operation → Result Turn Refusal
turn_of owing model (recorded.WritePort number byte) = write_turn owing model (port_of number) byte
turn_of owing model (recorded.ReadPort number) = read_turn (port_of number)
turn_of owing model (recorded.SetChannelGate channel level) = gate_turn owing channel level
turn_of owing model (recorded.Counts channel number) = counts_turn channel number
turn_of owing model (recorded.LoadCycle channel) = load_cycle_turn channel
turn_of owing model (recorded.CatchUp given) = Ok (catch_up_turn given)
turn_of owing model (recorded.Run given) = Ok (run_turn given)
turn_of owing model recorded.Reset = reset_turn owing
turn_of owing model (recorded.WorkOff stated) = Ok (WorkOff stated)
