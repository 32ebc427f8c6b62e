-- Each refusal has a number of its own, from 1 to 100. Assumes nothing.
use Prim.Native.Nat.{ℕ}
use mathlib.Core.List.{[], ◌∷◌}
use mathlib.Core.Path.{◌≡◌, refl}
use mathlib.Core.Bool.{false}
use lib.Dec.{eqb, ltb}
use lib.ListN.{get_or}
use Rattle.refusal.specs.declared.Refusal.{Refusal}
use Rattle.refusal.specs.declared.Refusal.TheVariants.{PortUnknown, ChannelAbove2, DivisorZero, TicksBelowWarp, RemainderTooLarge, PlacePastEnd, NoRoom, TraceEnds, SettingsCount, TooManyOperations, UnknownCode, BytesAfter, TooManyTicks, TicksOwed, CheckpointCount, CheckpointWrong, TargetNotZero, NumberNotZero, TooLarge}
use Rattle.refusal.specs.Refusal.{refusal_number}
use Rattle.refusal.proofs.Apart.{apart_by}

-- no refusal has the number 0, 6, 14, or one above 21; some refusal stands there too
abbrev pub refusal_numbered : ℕ → Refusal
refusal_numbered number =
    get_or
    (PortUnknown ∷ PortUnknown ∷ ChannelAbove2 ∷ DivisorZero ∷ TicksBelowWarp ∷ RemainderTooLarge ∷ PlacePastEnd ∷ PlacePastEnd ∷ NoRoom ∷ TraceEnds ∷ SettingsCount ∷ TooManyOperations ∷ UnknownCode ∷ BytesAfter ∷ TooManyTicks ∷ TooManyTicks ∷ TicksOwed ∷ CheckpointCount ∷ CheckpointWrong ∷ TargetNotZero ∷ NumberNotZero ∷ TooLarge ∷ [])
    number
    TooLarge

-- the one law that goes through the table: a number is not 0, which says that nothing is refused; it lies below the numbers of the byte forms, which begin at 101;
-- and its refusal is found again from it
in_table : (r : Refusal) → (eqb (refusal_number r) 0 ≡ false) × (ltb 100 (refusal_number r) ≡ false) × (refusal_numbered (refusal_number r) ≡ r)
in_table PortUnknown = (refl, refl, refl)
in_table ChannelAbove2 = (refl, refl, refl)
in_table DivisorZero = (refl, refl, refl)
in_table TicksBelowWarp = (refl, refl, refl)
in_table RemainderTooLarge = (refl, refl, refl)
in_table PlacePastEnd = (refl, refl, refl)
in_table NoRoom = (refl, refl, refl)
in_table TraceEnds = (refl, refl, refl)
in_table SettingsCount = (refl, refl, refl)
in_table TooManyOperations = (refl, refl, refl)
in_table UnknownCode = (refl, refl, refl)
in_table BytesAfter = (refl, refl, refl)
in_table TooManyTicks = (refl, refl, refl)
in_table TicksOwed = (refl, refl, refl)
in_table CheckpointCount = (refl, refl, refl)
in_table CheckpointWrong = (refl, refl, refl)
in_table TargetNotZero = (refl, refl, refl)
in_table NumberNotZero = (refl, refl, refl)
in_table TooLarge = (refl, refl, refl)

pub number-set : (r : Refusal) → eqb (refusal_number r) 0 ≡ false
number-set r = (in_table r).0

pub below-101 : (r : Refusal) → ltb 100 (refusal_number r) ≡ false
below-101 r = (in_table r).1

pub numbered-back : (r : Refusal) → refusal_numbered (refusal_number r) ≡ r
numbered-back r = (in_table r).2

pub numbers_apart : (r s : Refusal) → refusal_number r ≡ refusal_number s → r ≡ s
numbers_apart = apart_by refusal_number refusal_numbered numbered-back
