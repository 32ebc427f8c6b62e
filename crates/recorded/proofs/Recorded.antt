-- The turn of a recorded operation comes to what the operation makes of the board. Assumes nothing.
use Prim.Native.Nat.{ℕ}
use mathlib.Core.Bool.{Bool, true, false, cond}
use mathlib.Core.List.{List}
use mathlib.Core.Path.{◌≡◌, refl, ap, ◌∙◌}
use lib.Dec.{ltb}
use Rattle.std.specs.Prelude.{Option, Some, None, Result, Ok}
use Rattle.refusal.specs.declared.Refusal.{Refusal}
use Rattle.control.specs.declared.Command.{Command}
use Rattle.control.specs.declared.Command.TheVariants as command
use Rattle.control.specs.Control.{command_of}
use Rattle.board.specs.declared.Board.{Board}
use Rattle.board.specs.Outcome.{Outcome}
use Rattle.ports.specs.declared.port.Port.{Port}
use Rattle.ports.specs.declared.port.Port.TheVariants as port
use Rattle.ports.specs.Port.{port_of}
use Rattle.trace.specs.declared.operation.Operation.{Operation}
use Rattle.trace.specs.declared.operation.Operation.TheVariants as recorded
use Rattle.turn.specs.declared.finding.Turn.{Turn}
use Rattle.recorded.specs.Asked.{two_lent, padded}
use Rattle.recorded.specs.Made.{in_six, make}
use Rattle.turn.specs.Finding.{command_turn, write_turn, read_turn}
use Rattle.turn.specs.Inner.{owes, Bare}
use Rattle.turn.specs.Turn.{taken}
use Rattle.recorded.specs.Finding.{turn_of}
use Rattle.recorded.specs.Inner.{turned_in_six}
use Rattle.turn.proofs.Turn.{write-is, gate-is, read_is, counts-is, load-cycle-is, catch-up-is, run_is, reset-is}

-- a turn that is lent two bytes
abbrev Two : Board → Result Turn Refusal → Type 0
Two b t = in_six (taken b t two_lent 0) ≡ turned_in_six b t

module _ (b : Board) where
  either : (x : Bool) (s t : Result Turn Refusal) → Two b s → Two b t → Two b (cond x s t)
  either true s t first second = first
  either false s t first second = second

  of-command : (k : Command) → Two b (Ok (command_turn k))
  of-command command.Nothing = refl
  of-command (command.LatchCount n) = refl
  of-command (command.SetMode n word) = refl
  of-command (command.ReadBack word) = refl

  of-write : (p : Option Port) (byte : ℕ) → Two b (write_turn (owes b) b.model p byte)
  of-write (Some (port.Data n)) byte = either (owes b) _ _ refl refl
  of-write (Some port.Command) byte = either (owes b) _ _ refl (of-command (command_of b.model byte))
  of-write None byte = refl

  of-read : (p : Option Port) → Two b (read_turn p)
  of-read (Some (port.Data n)) = refl
  of-read (Some port.Command) = refl
  of-read None = refl

  -- a call that lends no bytes: in six places none and two are the same
  bare : (o : Outcome) (t : Result Turn Refusal) → Bare b o t → Two b t → in_six o ≡ turned_in_six b t
  bare o t is two =
      ap {B = Outcome} (λ (events : List ℕ). record { reply = o.reply; board = o.board; events = padded events }) is.none ∙ ap in_six (is.same two_lent 0) ∙ two

pub turn-made : (b : Board) (o : Operation) → make b o ≡ turned_in_six b (turn_of (owes b) b.model o)
unfolding make turn_of
turn-made b (recorded.WritePort number byte) = ap in_six (write-is b two_lent 0 number byte) ∙ of-write b (port_of number) byte
turn-made b (recorded.ReadPort number) = bare b _ _ (read_is b number) (of-read b (port_of number))
turn-made b (recorded.SetChannelGate channel level) =
    ap in_six (gate-is b two_lent 0 channel level) ∙ either b (ltb 2 channel) _ _ refl (either b (owes b) _ _ refl refl)
turn-made b (recorded.Counts channel number) = bare b _ _ (counts-is b channel number) (either b (ltb 2 channel) _ _ refl refl)
turn-made b (recorded.LoadCycle channel) = bare b _ _ (load-cycle-is b channel) (either b (ltb 2 channel) _ _ refl refl)
turn-made b (recorded.CatchUp given) = bare b _ _ (catch-up-is b given) refl
turn-made b (recorded.Run given) = bare b _ _ (run_is b given) refl
turn-made b recorded.Reset = bare b _ _ (reset-is b) (either b (owes b) _ _ refl refl)
turn-made b (recorded.WorkOff stated) = refl
