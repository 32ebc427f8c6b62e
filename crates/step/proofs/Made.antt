-- A call that works ticks off leaves the board as many ticks later as its reply tells; a refused one tells of none. Assumes nothing.
use Prim.Native.Nat.{ℕ, ◌≤◌}
use mathlib.Core.List.{List}
use mathlib.Core.Path.{◌≡◌, refl, sym, ap, subst, ◌∙◌}
use lib.Dec.{ltb}
use lib.ListN.{length}
use borrow.Author.Tests.{ltb-false}
use Rattle.numbers.specs.Times.{times}
use Rattle.refusal.specs.Reply.{Reply}
use Rattle.channel.proofs.Pick.{pick-knowing}
use Rattle.board.specs.declared.Board.{Board}
use Rattle.board.specs.Outcome.{Outcome, Value, refuse}
use Rattle.owed.specs.BoardTick.{board_tick}
use Rattle.owed.specs.Worked.{work_off}
use Rattle.owed.proofs.Working.{accepted-is}
use Rattle.owed.proofs.WorkedOff.{worked-off}
use Rattle.step.specs.Owed.{made_by}

module _ (b : Board) (stated : ℕ) (events : List ℕ) (place : ℕ) where
  abbrev Later : Outcome → Type 0
  Later outcome = outcome.board ≡ times (made_by outcome.reply) board_tick b

  not-refused : place ≤ length events → stated ≤ 65536 → Later (work_off b stated events place)
  not-refused inside few =
      let w = worked-off b stated events place inside few in
      w.ticks-made ∙ ap (λ (reply : Reply Value). times (made_by reply) board_tick b) (sym w.answered)

  pub ticks-made : (work_off b stated events place).board ≡ times (made_by (work_off b stated events place).reply) board_tick b
  unfolding work_off
  ticks-made =
      pick-knowing Later (ltb (length events) place) (refuse 7 b events) _ (λ past. refl)
      (λ inside.
      pick-knowing Later (ltb 65536 stated) (refuse 15 b events) _ (λ many. refl)
      (λ few.
      subst Later (accepted-is b stated events place (ltb-false _ _ inside) (ltb-false _ _ few)) (not-refused (ltb-false _ _ inside) (ltb-false _ _ few))))
