-- A tick of three channels with its events, as the loop that works ticks off makes it: it is a tick of any board of that model that has them.
-- Assumes nothing.
use Prim.Native.Nat.{ℕ, ◌+◌, ◌-◌}
use mathlib.Core.List.{[], ◌∷◌}
use mathlib.Core.Path.{◌≡◌, sym, ap, ◌∙◌}
use Rattle.channel.specs.declared.Channel.{Channel}
use Rattle.channel.specs.declared.PitType.{PitType}
use Rattle.tick.specs.Tick.{tick}
use Rattle.std.specs.Prelude.{Option}
use Rattle.event.specs.declared.Event.{Event}
use Rattle.event.specs.Event.{level_event}
use Rattle.board.specs.declared.Board.{Board}
use Rattle.board.specs.Board.{owing}
use Rattle.owed.specs.BoardTick.{board_tick}
use Rattle.owed.specs.Worked.{Room, put, size, needed, put_all}

-- channel n after its tick, and its event
pub record Ticks (model : PitType) (n : ℕ) (d t : Channel) (e : Option Event) : Type 0 where
  pub after : t ≡ tick model d
  pub event : e ≡ level_event n d t

module _ {model : PitType} {n : ℕ} {d t : Channel} {e : Option Event} (f : Ticks model n d t e) (m : PitType) (model_is : m ≡ model) where
  moved : t ≡ tick m d
  moved = f.after ∙ ap (λ (x : PitType). tick x d) (sym model_is)

  told : e ≡ level_event n d (tick m d)
  told = f.event ∙ ap (level_event n d) moved

module _ {model : PitType} {d₀ d₁ d₂ t₀ t₁ t₂ : Channel} {e₀ e₁ e₂ : Option Event} (f₀ : Ticks model 0 d₀ t₀ e₀) (f₁ : Ticks model 1 d₁ t₁ e₁) (f₂ : Ticks model 2 d₂ t₂ e₂) (b : Board) (owed : ℕ) (model_is : b.model ≡ model) where
  abbrev before : Board
  before = owing b owed (d₀ ∷ d₁ ∷ d₂ ∷ [])

  pub tick-board : board_tick before ≡ owing b (owed - 1) (t₀ ∷ t₁ ∷ t₂ ∷ [])
  unfolding board_tick
  tick-board = sym (simp (moved f₀ b.model model_is, moved f₁ b.model model_is, moved f₂ b.model model_is))

  pub tick-needs : size e₀ + size e₁ + size e₂ ≡ needed before
  tick-needs = simp (told f₀ b.model model_is, told f₁ b.model model_is, told f₂ b.model model_is)

  pub tick-room : (room : Room) → put e₂ (put e₁ (put e₀ room)) ≡ put_all before room
  tick-room room = simp (told f₀ b.model model_is, told f₁ b.model model_is, told f₂ b.model model_is)
