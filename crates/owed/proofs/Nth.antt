-- A channel of the board after so many ticks of the board, and its next tick. Assumes nothing.
use Prim.Native.Nat.{ℕ, zero, suc, ◌<◌}
use mathlib.Core.Path.{◌≡◌, refl, ap, ◌∙◌}
use native.Mathlib.Omega.{arith}
use Rattle.numbers.specs.Times.{times}
use Rattle.channel.specs.declared.Channel.{Channel}
use Rattle.channel.specs.declared.PitType.{PitType}
use Rattle.tick.specs.Tick.{tick}
use Rattle.board.specs.declared.Board.{Board}
use Rattle.board.specs.Board.{channel_at}
use Rattle.owed.specs.BoardTick.{board_tick}

tick-at : (b : Board) (i : ℕ) → i < 3 → channel_at (board_tick b) i ≡ tick b.model (channel_at b i)
unfolding board_tick
tick-at b zero on = refl
tick-at b (suc zero) on = refl
tick-at b (suc (suc zero)) on = refl
tick-at b (suc (suc (suc i))) on = absurd (omega arith)

tick-model : (b : Board) → (board_tick b).model ≡ b.model
unfolding board_tick
tick-model b = refl

ticks-model : (k : ℕ) (b : Board) → (times k board_tick b).model ≡ b.model
ticks-model zero b = refl
ticks-model (suc k) b = tick-model (times k board_tick b) ∙ ticks-model k b

module _ (b : Board) (i : ℕ) (on : i < 3) where
  -- channel i after so many ticks
  abbrev now : ℕ → Channel
  now k = channel_at (times k board_tick b) i

  -- the tick that follows
  pub next-tick : (k : ℕ) → now (suc k) ≡ tick b.model (now k)
  next-tick k = tick-at (times k board_tick b) i on ∙ ap (λ (model : PitType). tick model (now k)) (ticks-model k b)
