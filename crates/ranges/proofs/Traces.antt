-- The numbers of a board always fit their fields: those of a fresh board do, and those that the operations of a trace leave, accepted or refused, one or many. Assumes nothing.
use Prim.Native.Nat.{ℕ, ◌<◌}
use mathlib.Core.Bool.{true}
use mathlib.Core.List.{List, [], ◌∷◌}
use mathlib.Core.Path.{refl}
use native.Mathlib.Omega.{arith}
use Rattle.channel.specs.declared.PitType.{PitType}
use Rattle.board.specs.declared.Board.{Board}
use Rattle.board.specs.Making.{fresh}
use Rattle.board_encoding.specs.Range.{BoardInRange}
use Rattle.trace.specs.declared.operation.Operation.{Operation}
use Rattle.trace.specs.declared.operation.Operation.TheVariants as recorded
use Rattle.trace.specs.Bytes.{Holds, AllHold}
use Rattle.recorded.specs.Asked.{asked}
use Rattle.recorded.specs.Made.{make, make_all}
use Rattle.ranges.specs.Calls.{CallInRange}
use Rattle.ranges.proofs.Rules.{fresh-at-in-range}
use Rattle.ranges.proofs.Steps.{step-in-range}

pub fresh-in-range : (model : PitType) (divisor : ℕ) → divisor < 4294967296 → BoardInRange (fresh model divisor)
unfolding fresh
fresh-in-range model divisor fits =
    let channel = fresh-at-in-range true in
    record { three = refl; first = channel; second = channel; third = channel; divisor = fits; remainder = omega arith; warp = omega arith; owed = omega arith }

-- what an operation of a trace asks
asked-in-range : (o : Operation) → Holds o → CallInRange (asked o)
asked-in-range (recorded.WritePort port byte) holds = holds.1
asked-in-range (recorded.ReadPort port) holds = tt
asked-in-range (recorded.SetChannelGate channel level) holds = tt
asked-in-range (recorded.Counts channel number) holds = tt
asked-in-range (recorded.LoadCycle channel) holds = tt
asked-in-range (recorded.CatchUp given) holds = holds
asked-in-range (recorded.Run given) holds = tt
asked-in-range recorded.Reset holds = tt
asked-in-range (recorded.WorkOff stated) holds = tt

pub make-in-range : (b : Board) → BoardInRange b → (o : Operation) → Holds o → BoardInRange (make b o).board
unfolding make
make-in-range b r o holds = step-in-range b r (asked o) (asked-in-range o holds)

pub all-in-range : (b : Board) → BoardInRange b → (os : List Operation) → AllHold os → BoardInRange (make_all b os)
all-in-range b r [] holds = r
all-in-range b r (o ∷ os) holds = all-in-range (make b o).board (make-in-range b r o holds.0) os holds.1
