-- The numbers of a board's time fit their fields after every call: remainder and owed ticks because refusal 5 keeps the sum that they are made of within 32 bits, the warp because a
-- catch-up's ticks are; the divisor stays. Assumes nothing.
use Prim.Native.Nat.{ℕ, ◌<◌}
use mathlib.Core.Bool.{Bool, true}
use mathlib.Core.Logic.{⊎_elim}
use mathlib.Core.Path.{◌≡◌, refl, sym, ap, subst}
use native.Mathlib.Nat.{div-le_self, mod-le}
use native.Mathlib.Omega.{arith}
use Rattle.refusal.specs.Reply.{Reply}
use Rattle.time.specs.declared.SystemTicks.{SystemTicks}
use Rattle.time.specs.Time.{Yield, summed}
use Rattle.board.specs.declared.Board.{Board}
use Rattle.board.specs.Outcome.{Outcome}
use Rattle.clock.specs.Clock.{elapsed, yielding, elapse, catch_up, run}
use Rattle.clock.proofs.Tests.{by-sum}
use Rattle.step.specs.Operation.{Operation, CatchUp, Run}
use Rattle.step.specs.Step.{step}
use Rattle.step.proofs.Every.{every-asked}
use Rattle.step.proofs.Owing.{by-timely}
use Rattle.ranges.specs.Calls.{CallInRange}

pub record TimeInRange (b : Board) : Type 0 where
  pub divisor : b.divisor < 4294967296
  pub remainder : b.remainder.0 < 4294967296
  pub warp : b.warp.0 < 4294967296
  pub owed : b.owed.0 < 4294967296

abbrev Leaves : Outcome → Type 0
Leaves outcome = TimeInRange outcome.board

module _ (b : Board) (t : TimeInRange b) where
  -- a call of time that leaves this warp
  elapse-in-range : (given warp : ℕ) (defer : Bool) → warp < 4294967296 → Leaves (elapse b given warp defer)
  elapse-in-range given warp defer fits =
      by-timely Leaves b (yielding b warp defer (elapsed b given)) t (λ owes. t)
      (λ none.
      by-sum b given (λ (made : Reply Yield). Leaves (yielding b warp defer made)) (λ number. t)
      (λ since small.
      let sum = summed given b.warp.0 b.remainder.0 in
      omega (arith, t.divisor, div-le_self sum b.divisor, mod-le sum b.divisor)))

  catch-up-in-range : (given : ℕ) → given < 4294967296 → Leaves (step b (CatchUp given))
  unfolding catch_up
  catch-up-in-range given fits = elapse-in-range given given true fits

  run-in-range : (given : ℕ) → Leaves (step b (Run given))
  unfolding run
  run-in-range given = elapse-in-range given 0 b.defer (omega arith)

  -- every call: one that lets time pass is a catch-up or a run, and the others leave all of it but owed ticks, of which they make no more
  pub time-in-range : (o : Operation) → CallInRange o → Leaves (step b o)
  time-in-range o fits =
      every-asked b (λ events ticks outcome. step b o ≡ outcome → Leaves outcome)
      (λ events number is. t)
      (λ events bytes value channels plain same three is. record { divisor = t.divisor; remainder = t.remainder; warp = t.warp; owed = t.owed })
      o
      (λ works events w so_far is.
      omega (
        arith,
        t.owed,
        so_far.none-lost,
        so_far.kept.divisor-kept,
        ap (λ (s : SystemTicks). s.0) so_far.kept.remainder-kept,
        ap (λ (s : SystemTicks). s.0) so_far.kept.warp-kept,
      ))
      (λ given warp call defer none since is.
      subst Leaves is
      (⊎_elim
      (λ catches. subst (λ (p : Operation). Leaves (step b p)) (sym catches.0) (catch-up-in-range given (subst CallInRange catches.0 fits)))
      (λ runs. subst (λ (p : Operation). Leaves (step b p)) (sym runs.0) (run-in-range given))
      call))
      refl
