-- No system tick is taken in twice: until the next run the warp rises by what the catch-ups take in, and the run takes in what is left of its
-- ticks. Assumes nothing.
use Prim.Native.Nat.{ℕ, ◌+◌, ◌-◌}
use mathlib.Core.List.{List, [], ◌∷◌}
use mathlib.Core.Logic.{⊎_elim}
use mathlib.Core.Path.{◌≡◌, refl, ap}
use native.Mathlib.Omega.{arith}
use Rattle.refusal.specs.Reply.{Reply, accepted}
use Rattle.time.specs.declared.SystemTicks.{SystemTicks}
use Rattle.time.specs.Time.{Yield}
use Rattle.board.specs.declared.Board.{Board}
use Rattle.board.specs.Outcome.{Outcome, Value}
use Rattle.clock.specs.Clock.{elapsed, yielding, run}
use Rattle.clock.proofs.Tests.{by-time}
use Rattle.step.specs.Operation.{Operation, Run}
use Rattle.step.specs.Step.{step, steps}
use Rattle.step.specs.Time.{if_accepted, system_taken, all_taken, NoRun}
use Rattle.refusal.proofs.Apart.{refused-not}
use Rattle.step.proofs.Every.{every-asked}
use Rattle.step.proofs.Owing.{by-timely}

-- an accepted catch-up takes in what lies between the old warp and the new; a refused one and the others take in nothing and leave the warp
step-warp : (b : Board) (o : Operation) → ((given : ℕ) → o ≡ Run given → ⊥) → system_taken b o + b.warp.0 ≡ (step b o).board.warp.0
step-warp b o no_run =
    every-asked b (λ events ticks outcome. ticks + b.warp.0 ≡ outcome.board.warp.0)
    (λ events number. omega arith)
    (λ events bytes value channels plain fits three. omega arith)
    o
    (λ is events w so_far. omega (arith, ap (λ (t : SystemTicks). t.0) so_far.kept.warp-kept))
    (λ given warp call defer none since. ⊎_elim (λ catches. omega (arith, catches.1)) (λ runs. absurd (no_run given runs.0)) call)

sums : (x y w v u : ℕ) → x + w ≡ v → y + v ≡ u → x + y + w ≡ u
sums x y w v u first later = omega arith

pub warp-rises : (b : Board) (os : List Operation) → NoRun os → all_taken b os + b.warp.0 ≡ (steps b os).warp.0
warp-rises b [] none = omega arith
warp-rises b (o ∷ os) none =
    sums (system_taken b o) (all_taken (step b o).board os) b.warp.0 (step b o).board.warp.0 _ (step-warp b o none.0) (warp-rises (step b o).board os none.1)

abbrev Takes : Board → ℕ → Value → Outcome → Type 0
Takes b given value o = o.reply ≡ accepted value → (if_accepted o.reply (given - b.warp.0) + b.warp.0 ≡ given) × (o.board.warp.0 ≡ 0)

-- "run sets the warp to 0"
pub run-takes : (b : Board) (given : ℕ) (value : Value) → (step b (Run given)).reply ≡ accepted value
    → (system_taken b (Run given) + b.warp.0 ≡ given) × ((step b (Run given)).board.warp.0 ≡ 0)
unfolding run
run-takes b given value =
    by-timely (Takes b given value) b (yielding b 0 b.defer (elapsed b given))
    (λ e. absurd (refused-not 3 value e))
    (λ owes e. absurd (refused-not 16 value e))
    (λ none.
    by-time b given (λ (made : Reply Yield). Takes b given value (yielding b 0 b.defer made))
    (λ number e. absurd (refused-not number value e))
    (λ since e. (omega arith, refl)))

-- an instruction, from a board whose warp is 0, as a run leaves it: whatever is done in between, an accepted run at its end brings what was taken in to its ticks
pub instruction : (b : Board) (os : List Operation) (given : ℕ) (value : Value) → b.warp.0 ≡ 0 → NoRun os → (step (steps b os) (Run given)).reply ≡ accepted value
    → all_taken b os + system_taken (steps b os) (Run given) ≡ given
instruction b os given value none no_run e =
    let rose = warp-rises b os no_run in
    let last = (run-takes (steps b os) given value e).0 in
    all_of (all_taken b os) (system_taken (steps b os) (Run given)) b.warp.0 (steps b os).warp.0 given none rose last
  where
    all_of : (x y w v u : ℕ) → w ≡ 0 → x + w ≡ v → y + v ≡ u → x + y ≡ u
    all_of x y w v u z first later = omega arith
