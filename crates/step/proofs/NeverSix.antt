-- Request L6: "6 is never given again". No call of the board is refused with it, since no row of any order has that number. Assumes nothing.
use Prim.Native.Nat.{ℕ}
use mathlib.Core.Bool.{false, true≢false}
use mathlib.Core.List.{List, [], ◌∷◌}
use mathlib.Core.Logic.{⊎_elim}
use mathlib.Core.Path.{◌≡◌, refl, sym, ◌∙◌}
use lib.Dec.{eqb}
use borrow.Author.Tests.{eq-eqb}
use Rattle.refusal.specs.Reply.{refused}
use Rattle.board.specs.declared.Board.{Board}
use Rattle.step.specs.Operation.{Operation, WritePort, ReadPort, SetChannelGate, Counts, LoadCycle, CatchUp, Run, Reset, GetOutputState, GetChannelCount, DoesChannelRetrigger, IsDirty, GetTimerAccum, WorkOff}
use Rattle.step.specs.Step.{step}
use Rattle.step.specs.Refusals.{Row, order, FirstOf}
use Rattle.step.proofs.Refusals.{refused-exactly}

-- rows none of which has the number
abbrev Without : ℕ → List Row → Type 0
Without k [] = Unit
Without k (row ∷ rest) = (eqb k row.number ≡ false) × Without k rest

not_first : (k : ℕ) (rows : List Row) → Without k rows → FirstOf rows k → ⊥
not_first k [] w first = first
not_first k (row ∷ rest) w first =
    ⊎_elim (λ here. true≢false (sym (eq-eqb k row.number here.0) ∙ w.0)) (λ later. not_first k rest w.1 later.1) first

without-six : (b : Board) (o : Operation) → Without 6 (order b o)
without-six b (WritePort port byte events place) = (refl, (refl, (refl, (refl, tt))))
without-six b (ReadPort port) = (refl, tt)
without-six b (SetChannelGate n level events place) = (refl, (refl, (refl, (refl, tt))))
without-six b (Counts n number) = (refl, tt)
without-six b (LoadCycle n) = (refl, tt)
without-six b (CatchUp given) = (refl, (refl, (refl, (refl, tt))))
without-six b (Run given) = (refl, (refl, (refl, (refl, tt))))
without-six b Reset = (refl, tt)
without-six b (GetOutputState n) = (refl, tt)
without-six b (GetChannelCount n) = (refl, tt)
without-six b (DoesChannelRetrigger n) = (refl, tt)
without-six b (IsDirty n) = (refl, tt)
without-six b GetTimerAccum = tt
without-six b (WorkOff stated events place) = (refl, (refl, tt))

pub never-six : (b : Board) (o : Operation) → (step b o).reply ≡ refused 6 → ⊥
never-six b o is = not_first 6 (order b o) (without-six b o) ((refused-exactly b o 6).0 is)
