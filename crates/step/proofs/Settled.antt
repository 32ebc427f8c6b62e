-- The calls that may raise an event: refusals 7 and 8 are given exactly on their conditions. Assumes nothing.
use Prim.Native.Nat.{ℕ, ◌-◌, ◌<◌}
use mathlib.Core.Path.{◌≡◌, refl}
use mathlib.Core.Bool.{Bool, true, false, true≢false, false≢true}
use mathlib.Core.List.{List, [], ◌∷◌}
use mathlib.Core.Logic.{◌↔◌}
use native.Mathlib.Omega.{arith}
use lib.ListN.{length}
use Rattle.refusal.specs.Reply.{refused}
use Rattle.channel.specs.declared.Channel.{Channel}
use Rattle.std.specs.Prelude.{Some, None}
use Rattle.event.specs.Event.{Placing, event_of, place_event}
use Rattle.event.proofs.Room.{by-unchanged, by_level}
use Rattle.control.specs.declared.ReadBackWord.{ReadBackWord}
use Rattle.board.specs.declared.Board.{Board}
use Rattle.board.specs.Board.{channel_at}
use Rattle.ports.specs.Settle.{call_reply, settle, untouched}
use Rattle.ports.specs.ReadBacks.{read_back_write}
use Rattle.step.specs.Refusals.{Changes, place_past_end, no_room, room_order, FirstOf}
use Rattle.step.proofs.Deciding.{accepts, holding, failing}

module _ (due : Type 0) (events : List ℕ) (place k : ℕ) where
  abbrev Exactly : Placing → Type 0
  Exactly p = (call_reply p.reply ≡ refused k) ↔ FirstOf (room_order due events place) k

  -- no event is due: 7 alone
  quiet : (due → ⊥) → Exactly (place_event None events place)
  quiet none =
      by-unchanged events place Exactly
      (λ past. holding (place_past_end events place) (no_room due events place ∷ []) k past)
      (λ inside.
      failing (place_past_end events place) (no_room due events place ∷ []) _ k (λ (past : length events < place). omega arith)
      (failing (no_room due events place) [] _ k (λ (h : due × (length events - place < 2)). none h.0) (accepts _ k)))

  -- an event is due: 7, then 8
  loud : due → (n : ℕ) (level : Bool) → Exactly (place_event (Some (record { channel = n; level = level })) events place)
  loud is n level =
      by_level events place Exactly
      (λ past. holding (place_past_end events place) (no_room due events place ∷ []) k past)
      n level
      (λ inside few.
      failing (place_past_end events place) (no_room due events place ∷ []) _ k (λ (past : length events < place). omega arith)
      (holding (no_room due events place) [] k (is, few)))
      (λ room.
      failing (place_past_end events place) (no_room due events place ∷ []) _ k (λ (past : length events < place). omega arith)
      (failing (no_room due events place) [] _ k
      (λ (h : due × (length events - place < 2)). let few : length events - place < 2 = h.1 in omega arith)
      (accepts _ k)))

  by-levels : (n : ℕ) (was is : Bool) → Changes was is ↔ due → Exactly (place_event (event_of n was is) events place)
  by-levels n true true means = quiet (λ d. means.1 d refl)
  by-levels n true false means = loud (means.0 true≢false) n false
  by-levels n false true means = loud (means.0 false≢true) n true
  by-levels n false false means = quiet (λ d. means.1 d refl)

  pub settle-refused : (b : Board) (n : ℕ) (c : Channel) → Changes (channel_at b n).pins.output c.pins.output ↔ due
      → ((settle b n c events place).reply ≡ refused k) ↔ FirstOf (room_order due events place) k
  unfolding settle
  settle-refused b n c means = by-levels n (channel_at b n).pins.output c.pins.output means

  pub untouched-refused : (b : Board) → (due → ⊥) → ((untouched b events place).reply ≡ refused k) ↔ FirstOf (room_order due events place) k
  unfolding untouched
  untouched-refused b none = quiet none

  pub read-back-refused : (b : Board) (word : ReadBackWord) → (due → ⊥) → ((read_back_write b word events place).reply ≡ refused k) ↔ FirstOf (room_order due events place) k
  read-back-refused b word none = quiet none
