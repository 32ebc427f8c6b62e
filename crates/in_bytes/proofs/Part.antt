-- The part that is found for an operation: what is done to it is the step of the board. Assumes nothing.
use Prim.Native.Nat.{ℕ}
use mathlib.Core.Bool.{Bool, true, false, cond}
use mathlib.Core.List.{List, []}
use mathlib.Core.Path.{◌≡◌, refl, ap, ◌∙◌}
use Rattle.std.specs.Prelude.{Result, Ok, Err}
use Rattle.refusal.specs.declared.Refusal.{Refusal}
use lib.Dec.{ltb}
use Rattle.board.specs.declared.Board.{Board}
use Rattle.board.specs.Outcome.{Outcome, refuse}
use Rattle.board.specs.Queries.{get_output_state, get_channel_count, does_channel_retrigger, is_dirty}
use Rattle.turn.specs.Inner.{owes}
use Rattle.turn.specs.Turn.{with_events, taken}
use Rattle.turn.specs.declared.finding.Turn.{Turn}
use Rattle.turn.proofs.Turn.{write-is, gate-is, read_is, counts-is, load-cycle-is, catch-up-is, run_is, reset-is}
use Rattle.board_operation.specs.declared.Operation.{Operation}
use Rattle.board_operation.specs.declared.Operation.TheVariants.{WritePort, ReadPort, SetChannelGate, Counts, LoadCycle, CatchUp, Run, Reset, GetOutputState, GetChannelCount, DoesChannelRetrigger, IsDirty, GetTimerAccum, WorkOff}
use Rattle.board_operation.specs.Made.{Outcome-in-numbers, numbers_of, operate}
use Rattle.in_bytes.specs.declared.finding.Query.{Query}
use Rattle.in_bytes.specs.declared.finding.Query.TheVariants as query
use Rattle.in_bytes.specs.declared.finding.Part.TheVariants.{Ask}
use Rattle.in_bytes.specs.Inner.{turned_part, part_of, query_answered, parted_or}
use Rattle.refusal.specs.declared.Refusal.TheVariants.{ChannelAbove2}

-- an outcome, its answer in numbers
abbrev in_numbers : Outcome → Outcome-in-numbers
in_numbers o = record { numbers = numbers_of o.reply; board = o.board; events = o.events }

-- a turn that is found, or refused
parted-turn : (b : Board) (t : Result Turn Refusal) (events : List ℕ) (place : ℕ) → taken b t events place ≡ parted_or b (turned_part t) events place
parted-turn b (Ok t) events place = refl
parted-turn b (Err refusal) events place = refl

-- a query of a channel that may not be there
ask-or : (above : Bool) (b : Board) (n : ℕ) (q : Query) (o : Outcome) (events : List ℕ) (place : ℕ) → with_events events o ≡ query_answered b n q events
    → with_events events (cond above (refuse 2 b []) o) ≡ parted_or b (cond above (Err ChannelAbove2) (Ok (Ask n q))) events place
ask-or true b n q o events place is = refl
ask-or false b n q o events place is = is

pub part-made : (b : Board) (op : Operation) (events : List ℕ) (place : ℕ)
    → operate b op events place ≡ in_numbers (parted_or b (part_of (owes b) b.model op) events place)
unfolding operate part_of get_output_state get_channel_count does_channel_retrigger is_dirty
part-made b (WritePort port x) events place = ap in_numbers (write-is b events place port x ∙ parted-turn b _ events place)
part-made b (ReadPort port) events place = ap in_numbers ((read_is b port).same events place ∙ parted-turn b _ events place)
part-made b (SetChannelGate channel level) events place = ap in_numbers (gate-is b events place channel level ∙ parted-turn b _ events place)
part-made b (Counts channel number) events place = ap in_numbers ((counts-is b channel number).same events place ∙ parted-turn b _ events place)
part-made b (LoadCycle channel) events place = ap in_numbers ((load-cycle-is b channel).same events place ∙ parted-turn b _ events place)
part-made b (CatchUp given) events place = ap in_numbers ((catch-up-is b given).same events place)
part-made b (Run given) events place = ap in_numbers ((run_is b given).same events place)
part-made b Reset events place = ap in_numbers ((reset-is b).same events place ∙ parted-turn b _ events place)
part-made b (GetOutputState channel) events place = ap in_numbers (ask-or (ltb 2 channel) b channel query.OutputState _ events place refl)
part-made b (GetChannelCount channel) events place = ap in_numbers (ask-or (ltb 2 channel) b channel query.ChannelCount _ events place refl)
part-made b (DoesChannelRetrigger channel) events place = ap in_numbers (ask-or (ltb 2 channel) b channel query.Retriggers _ events place refl)
part-made b (IsDirty channel) events place = ap in_numbers (ask-or (ltb 2 channel) b channel query.IsDirty _ events place refl)
part-made b GetTimerAccum events place = refl
part-made b (WorkOff stated) events place = refl
