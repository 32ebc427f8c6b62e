-- What holds after each tick that a call works off: everything but channels and owed ticks stands, no owed tick is lost, and the lent bytes keep their
-- length. What is told of the ticks themselves is proved in the crate owed (specs/Told.antt there). Assumes nothing.
use Prim.Native.Nat.{ℕ, zero, suc, ◌+◌, ◌-◌, ◌≤◌}
use mathlib.Core.Bool.{Bool, true, false, ◌||◌, true≢false}
use mathlib.Core.List.{List}
use mathlib.Core.Path.{◌≡◌, refl, ◌∙◌}
use native.Mathlib.Omega.{arith}
use lib.Dec.{eqb}
use lib.ListN.{length}
use borrow.Author.Tests.{ltb-false, eqb-false}
use Rattle.channel.proofs.Pick.{pick-knowing}
use Rattle.board.specs.declared.Board.{Board}
use Rattle.owed.specs.BoardTick.{board_tick}
use Rattle.owed.specs.Worked.{Work, needed, one_more, full, stops, work_up_to, begun}
use Rattle.owed.proofs.Puts.{put_all-fits}
use Rattle.step.specs.Time.{TimeKept}

-- how the board and the lent bytes of a call stand to those that it was given, after any number of its ticks
pub record Underway (b : Board) (events : List ℕ) (w : Work) : Type 0 where
  pub kept : TimeKept b w.board
  pub none-lost : w.board.owed.0 + w.made ≡ b.owed.0
  pub same_length : length w.room.bytes ≡ length events
  pub inside : w.room.place ≤ length events
  pub leaves-three : length b.channels ≡ 3 → length w.board.channels ≡ 3

pub neither : (s t : Bool) → s || t ≡ false → (s ≡ false) × (t ≡ false)
neither true t e = absurd (true≢false e)
neither false t e = (refl, e)

module _ (b : Board) (events : List ℕ) where
  -- the work goes on only where a tick is owed and its events fit
  one-more : (w : Work) → stops w ≡ false → Underway b events w → Underway b events (one_more w)
  unfolding board_tick
  one-more w on so_far =
      let goes = neither (eqb w.board.owed.0 0) (full w) on in
      let owes : w.board.owed.0 ≡ 0 → ⊥ = eqb-false _ _ goes.0 in
      let room : needed w.board ≤ length w.room.bytes - w.room.place = ltb-false _ _ goes.1 in
      let fit = put_all-fits w.board w.room (omega arith) in
      record {
        kept = record {
          model-kept = so_far.kept.model-kept;
          divisor-kept = so_far.kept.divisor-kept;
          remainder-kept = so_far.kept.remainder-kept;
          warp-kept = so_far.kept.warp-kept;
          defer-kept = so_far.kept.defer-kept;
        };
        none-lost = omega arith;
        same_length = fit.0 ∙ so_far.same_length;
        inside = omega (arith, fit.0, fit.1);
        leaves-three = λ three. refl;
      }

  more : (left : ℕ) (w : Work) → Underway b events w → Underway b events (work_up_to left w)
  more zero w so_far = so_far
  more (suc left) w so_far =
      pick-knowing (Underway b events) (stops w) w (work_up_to left (one_more w)) (λ stop. so_far) (λ on. more left (one_more w) (one-more w on so_far))

  pub worked-on : (stated place : ℕ) → place ≤ length events → Underway b events (work_up_to stated (begun b events place))
  worked-on stated place inside =
      more stated (begun b events place)
      (record {
        kept = record { model-kept = refl; divisor-kept = refl; remainder-kept = refl; warp-kept = refl; defer-kept = refl };
        none-lost = omega arith;
        same_length = refl;
        inside = inside;
        leaves-three = λ three. three;
      })
