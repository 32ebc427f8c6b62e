-- Document 01, "Time and reset": no system tick that is taken in is lost, over any list of operations. Assumes nothing.
use Prim.Native.Nat.{ℕ, ◌+◌, ◌*◌}
use mathlib.Core.Path.{◌≡◌, refl, sym, ap, ◌∙◌}
use mathlib.Core.List.{List, [], ◌∷◌}
use native.Mathlib.Nat.{mul-add, mul-zero, div-add-mod}
use native.Mathlib.Omega.{arith}
use Rattle.time.specs.Time.{summed}
use Rattle.board.specs.declared.Board.{Board}
use Rattle.board.specs.Outcome.{Outcome}
use Rattle.step.specs.Operation.{Operation}
use Rattle.step.specs.Step.{step, steps}
use Rattle.step.specs.Time.{yielded, system_taken, all_yielded, all_taken}
use Rattle.step.proofs.Every.{every-step}

-- one operation: the divisor stays, and what it takes in is what it gives out or keeps
record Balanced (b : Board) (ticks : ℕ) (outcome : Outcome) : Type 0 where
  divisor-kept : outcome.board.divisor ≡ b.divisor
  balance : b.divisor * yielded outcome.reply + outcome.board.remainder.0 ≡ b.remainder.0 + ticks

none_in : (b : Board) → b.divisor * 0 + b.remainder.0 ≡ b.remainder.0 + 0
none_in b = simp mul-zero (omega arith)

step-balanced : (b : Board) (o : Operation) → Balanced b (system_taken b o) (step b o)
step-balanced b o =
    every-step b (λ events ticks outcome. Balanced b ticks outcome)
    (λ events number. record { divisor-kept = refl; balance = none_in b })
    (λ events bytes value channels plain fits three. record { divisor-kept = refl; balance = simp plain.0 (none_in b) })
    (λ events w so_far. record { divisor-kept = so_far.kept.divisor-kept; balance = simp so_far.kept.remainder-kept (none_in b) })
    (λ given warp defer none since. record { divisor-kept = refl; balance = div-add-mod (summed given b.warp.0 b.remainder.0) b.divisor })
    o

sums : (a b r s t v w : ℕ) → a + s ≡ r + v → b + t ≡ s + w → a + b + t ≡ r + (v + w)
sums a b r s t v w first second = omega arith

-- two balances, one after the other: d the divisor; r, s, t the remainders before, between and after
add-up : (d x y r s t v w : ℕ) → d * x + s ≡ r + v → d * y + t ≡ s + w → d * (x + y) + t ≡ r + (v + w)
add-up d x y r s t v w first second = simp (mul-add d x y) (sums (d * x) (d * y) r s t v w first second)

-- "divisor times all timer ticks yielded, plus the last remainder, equals the first remainder plus all (ticks - warp)"
pub time-balances : (b : Board) (os : List Operation)
    → b.divisor * all_yielded b os + (steps b os).remainder.0 ≡ b.remainder.0 + all_taken b os
time-balances b [] = none_in b
time-balances b (o ∷ os) =
    let first = step-balanced b o in
    let later = time-balances (step b o).board os in
    add-up b.divisor (yielded (step b o).reply) (all_yielded (step b o).board os) b.remainder.0 (step b o).board.remainder.0
    (steps (step b o).board os).remainder.0 (system_taken b o) (all_taken (step b o).board os) first.balance
    (ap (λ d. d * all_yielded (step b o).board os + (steps (step b o).board os).remainder.0) (sym first.divisor-kept) ∙ later)
