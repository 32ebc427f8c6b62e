-- Whether the board defers is what its calls tell: an accepted catch-up sets the flag, and no other call moves it. Assumes nothing.
use Prim.Native.Nat.{ℕ}
use mathlib.Core.Bool.{Bool, true, false, cond}
use mathlib.Core.Path.{◌≡◌, refl, ap}
use Rattle.refusal.specs.Reply.{Reply, refused, accepted}
use Rattle.refusal.proofs.Apart.{refused-not}
use Rattle.time.specs.Time.{Yield}
use Rattle.board.specs.declared.Board.{Board}
use Rattle.board.specs.Outcome.{Outcome, Value}
use Rattle.clock.specs.Clock.{elapsed, yielding, elapse, catch_up, run}
use Rattle.step.specs.Operation.{Operation, WritePort, ReadPort, SetChannelGate, Counts, LoadCycle, CatchUp, Run, Reset, GetOutputState, GetChannelCount, DoesChannelRetrigger, IsDirty, GetTimerAccum, WorkOff}
use Rattle.step.specs.Accepted.{unless_refused}
use Rattle.step.specs.Step.{step}
use Rattle.step.specs.Time.{is_time_call}
use Rattle.step.proofs.Accepted.{by-reply}
use Rattle.step.proofs.Kept.{time-kept}
use Rattle.step.proofs.Leaves.{refused-leaves}
use Rattle.step.proofs.Owing.{by-timely}
use Rattle.waveform.specs.Heard.{catches_up, defers_after}

-- an accepted call of time leaves the flag that it is to leave
yielded-flag : (b : Board) (warp : ℕ) (flag : Bool) (made : Reply Yield) (value : Value) → (yielding b warp flag made).reply ≡ accepted value
    → (yielding b warp flag made).board.defer ≡ flag
yielded-flag b warp flag (refused number) value took = absurd (refused-not number value took)
yielded-flag b warp flag (accepted made) value took = refl

elapsed-flag : (b : Board) (given warp : ℕ) (flag : Bool) (value : Value) → (elapse b given warp flag).reply ≡ accepted value → (elapse b given warp flag).board.defer ≡ flag
elapsed-flag b given warp flag value =
    by-timely (λ (o : Outcome). o.reply ≡ accepted value → o.board.defer ≡ flag) b (yielding b warp flag (elapsed b given))
    (λ took. absurd (refused-not 3 value took))
    (λ owes took. absurd (refused-not 16 value took))
    (λ none took. yielded-flag b warp flag (elapsed b given) value took)

catch-up-flag : (b : Board) (given : ℕ) (value : Value) → (catch_up b given).reply ≡ accepted value → (catch_up b given).board.defer ≡ true
unfolding catch_up
catch-up-flag b given value took = elapsed-flag b given given true value took

run-flag : (b : Board) (given : ℕ) (value : Value) → (run b given).reply ≡ accepted value → (run b given).board.defer ≡ b.defer
unfolding run
run-flag b given value took = elapsed-flag b given 0 b.defer value took

module _ (b : Board) where
  other-flag : (o : Operation) → is_time_call o ≡ false → (step b o).board.defer ≡ b.defer
  other-flag o other = (time-kept b o other).defer-kept

  flag_by : (o : Operation) (value : Value) → (step b o).reply ≡ accepted value → (step b o).board.defer ≡ cond (catches_up o) true b.defer
  flag_by (WritePort port byte events place) value took = other-flag (WritePort port byte events place) refl
  flag_by (ReadPort port) value took = other-flag (ReadPort port) refl
  flag_by (SetChannelGate n level events place) value took = other-flag (SetChannelGate n level events place) refl
  flag_by (Counts n number) value took = other-flag (Counts n number) refl
  flag_by (LoadCycle n) value took = other-flag (LoadCycle n) refl
  flag_by (CatchUp given) value took = catch-up-flag b given value took
  flag_by (Run given) value took = run-flag b given value took
  flag_by Reset value took = other-flag Reset refl
  flag_by (GetOutputState n) value took = other-flag (GetOutputState n) refl
  flag_by (GetChannelCount n) value took = other-flag (GetChannelCount n) refl
  flag_by (DoesChannelRetrigger n) value took = other-flag (DoesChannelRetrigger n) refl
  flag_by (IsDirty n) value took = other-flag (IsDirty n) refl
  flag_by GetTimerAccum value took = other-flag GetTimerAccum refl
  flag_by (WorkOff stated events place) value took = other-flag (WorkOff stated events place) refl

  pub defer-told : (o : Operation) → (step b o).board.defer ≡ defers_after b o b.defer
  defer-told o =
      by-reply b o (λ (reply : Reply Value). (step b o).board.defer ≡ unless_refused reply b.defer (cond (catches_up o) true b.defer))
      (λ number e. ap (λ (d : Board). d.defer) (refused-leaves b o number e).0)
      (λ value e. flag_by o value e)
