-- What the tests of a time call come to: it is refused, or the ticks are not below the warp, the sum is a number of 32 bits, and it is divided. Assumes nothing.
use Prim.Native.Nat.{ℕ, ◌≤◌}
use lib.Dec.{eqb, ltb}
use borrow.Author.Tests.{ltb-false}
use Rattle.refusal.specs.Reply.{Reply, refused, accepted}
use Rattle.channel.proofs.Pick.{pick-holds, pick-knowing}
use Rattle.time.specs.Time.{Yield, converted, summed, ticks_from_time}
use Rattle.board.specs.declared.Board.{Board}
use Rattle.clock.specs.Clock.{elapsed}

pub by-sum : (b : Board) (given : ℕ) (P : Reply Yield → Type 0) → ((number : ℕ) → P (refused number))
    → (b.warp.0 ≤ given → summed given b.warp.0 b.remainder.0 ≤ 4294967295
    → P (accepted (converted (summed given b.warp.0 b.remainder.0) b.divisor)))
    → P (elapsed b given)
unfolding ticks_from_time
by-sum b given P refusal yields =
    pick-holds P (eqb b.divisor 0) (refused 3) _ (refusal 3)
    (pick-knowing P (ltb given b.warp.0) (refused 4) _ (λ below. refusal 4)
    (λ since.
    pick-knowing P (ltb 4294967295 (summed given b.warp.0 b.remainder.0)) (refused 5) _ (λ large. refusal 5)
    (λ fits. yields (ltb-false _ _ since) (ltb-false _ _ fits))))

-- .. where the sum's size is nothing to P
pub by-time : (b : Board) (given : ℕ) (P : Reply Yield → Type 0) → ((number : ℕ) → P (refused number))
    → (b.warp.0 ≤ given → P (accepted (converted (summed given b.warp.0 b.remainder.0) b.divisor))) → P (elapsed b given)
by-time b given P refusal yields = by-sum b given P refusal (λ since fits. yields since)
