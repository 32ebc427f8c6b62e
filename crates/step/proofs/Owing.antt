-- What the test for owed ticks comes to: what holds of refusal 16, and where none is owed of the outcome, holds of the call; and the same of a time
-- call, which tests its divisor first. Assumes nothing.
use Prim.Native.Nat.{ℕ, ◌<◌}
use mathlib.Core.List.{List, []}
use mathlib.Core.Path.{◌≡◌, refl}
use native.Mathlib.Omega.{arith}
use lib.Dec.{eqb}
use borrow.Author.Tests.{eqb-true, eqb-false}
use Rattle.refusal.specs.Reply.{accepted}
use Rattle.refusal.proofs.Apart.{refused-not}
use Rattle.channel.proofs.Pick.{pick-holds, pick-knowing}
use Rattle.board.specs.declared.Board.{Board}
use Rattle.board.specs.Outcome.{Outcome, Value, refuse, unless_owed}
use Rattle.clock.specs.Clock.{timely}

pub by-owed : (P : Outcome → Type 0) (b : Board) (events : List ℕ) (outcome : Outcome) → (0 < b.owed.0 → P (refuse 16 b events))
    → (b.owed.0 ≡ 0 → P outcome) → P (unless_owed b events outcome)
by-owed P b events outcome refuses takes =
    pick-knowing P (eqb b.owed.0 0) outcome (refuse 16 b events) (λ none. takes (eqb-true _ _ none))
    (λ owes. let h : b.owed.0 ≡ 0 → ⊥ = eqb-false _ _ owes in refuses (omega arith))

-- refusal 16 is not given to an accepted call
pub not-owed : (b : Board) (events : List ℕ) (outcome : Outcome) (value : Value) → (unless_owed b events outcome).reply ≡ accepted value
    → unless_owed b events outcome ≡ outcome
not-owed b events outcome value =
    by-owed (λ (o : Outcome). o.reply ≡ accepted value → o ≡ outcome) b events outcome (λ owes took. absurd (refused-not 16 value took))
    (λ none took. refl)

pub by-timely : (P : Outcome → Type 0) (b : Board) (outcome : Outcome) → P (refuse 3 b []) → (0 < b.owed.0 → P (refuse 16 b []))
    → (b.owed.0 ≡ 0 → P outcome) → P (timely b outcome)
by-timely P b outcome zero-divisor refuses takes =
    pick-holds P (eqb b.divisor 0) (refuse 3 b []) _ zero-divisor (by-owed P b [] outcome refuses takes)
