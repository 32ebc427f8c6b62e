-- A call of time leaves the divisor: the board with the fields that it leaves is the board with four of them. Assumes nothing.
use Prim.Native.Nat.{ℕ}
use mathlib.Core.Bool.{Bool}
use mathlib.Core.Path.{◌≡◌, refl, sym, ap, ◌∙◌}
use lib.Dec.{eqb}
use Rattle.std.specs.Prelude.{Result}
use Rattle.refusal.specs.declared.Refusal.{Refusal}
use Rattle.refusal.specs.Reply.{Reply, refused, accepted}
use Rattle.channel.proofs.Pick.{pick-holds}
use Rattle.time.specs.Time.{Yield}
use Rattle.board.specs.declared.Board.{Board}
use Rattle.board.specs.declared.Answer.{Answer}
use Rattle.board.specs.Board.{with_time}
use Rattle.board.specs.Outcome.{Outcome}
use Rattle.clock.specs.declared.Clock.{Clock}
use Rattle.clock.specs.Clock.{elapsed, yielding, elapse}
use Rattle.clock.specs.Elapsed.{elapsed_on, with_clock}

yielding-divisor : (b : Board) (next : ℕ) (defers : Bool) (reply : Reply Yield) → (yielding b next defers reply).board.divisor ≡ b.divisor
yielding-divisor b next defers (refused number) = refl
yielding-divisor b next defers (accepted made) = refl

divisor-stays : (b : Board) (given next : ℕ) (defers : Bool) → (elapse b given next defers).board.divisor ≡ b.divisor
divisor-stays b given next defers =
    pick-holds (λ (o : Outcome). o.board.divisor ≡ b.divisor) (eqb b.divisor 0) _ _ refl
    (pick-holds (λ (o : Outcome). o.board.divisor ≡ b.divisor) (eqb b.owed.0 0) _ _ (yielding-divisor b next defers (elapsed b given)) refl)

pub clock-stays : (b : Board) (answer : Result Answer Refusal) (t : Clock) (given next : ℕ) (defers : Bool) → elapsed_on b answer t ≡ elapse b given next defers
    → with_time b t.remainder.0 t.warp.0 t.defer t.owed.0 ≡ with_clock b t
clock-stays b answer t given next defers e =
    let same : b.divisor ≡ t.divisor = sym (ap (λ (o : Outcome). o.board.divisor) e ∙ divisor-stays b given next defers) in
    λ i. record {
      channels = b.channels;
      model = b.model;
      divisor = same i;
      remainder = t.remainder;
      warp = t.warp;
      defer = t.defer;
      owed = t.owed;
    }
