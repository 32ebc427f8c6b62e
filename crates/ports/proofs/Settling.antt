-- What a call that may raise an event leaves: the board as it was, where the event is refused, or the new one, where the call is accepted. Assumes nothing.
use Prim.Native.Nat.{ℕ, zero, suc}
use mathlib.Core.Bool.{Bool}
use mathlib.Core.List.{List, [], ◌∷◌}
use mathlib.Core.Path.{◌≡◌, refl, sym, ap, ◌∙◌}
use lib.ListN.{get_or, set}
use Rattle.refusal.specs.Reply.{Reply, refused, accepted}
use Rattle.refusal.proofs.Apart.{refused-not}
use Rattle.channel.specs.declared.Channel.{Channel}
use Rattle.channel.specs.declared.PitType.{PitType}
use Rattle.channel.specs.Blank.{blank}
use Rattle.std.specs.Prelude.{Option, None, Result, Ok, Err}
use Rattle.refusal.specs.declared.Refusal.{Refusal}
use Rattle.event.specs.declared.Event.{Event}
use Rattle.event.specs.Event.{level_event, placing, place_event}
use Rattle.board.specs.declared.Board.{Board}
use Rattle.board.specs.Board.{channel_at, with_channel}
use Rattle.board.specs.Outcome.{Outcome, Value}
use Rattle.board.specs.Answer.{reply_of}
use Rattle.board.proofs.Apart.{answers-apart}
use Rattle.board.proofs.Channels.{put-own}
use Rattle.board.specs.declared.Answer.{Answer}
use Rattle.board.specs.declared.Answer.TheVariants.{Place}
use Rattle.ports.specs.Settled.{settled_on}
use Rattle.ports.specs.Settle.{call_reply, board_after, placed_on, settle, untouched}

pub after_holds : (P : Board → Type 0) (reply : Reply ℕ) (old new : Board) → P old → P new → P (board_after reply old new)
after_holds P (refused number) old new p q = p
after_holds P (accepted place) old new p q = q

pub after-taken : (reply : Reply ℕ) (old new : Board) (value : Value) → call_reply reply ≡ accepted value → board_after reply old new ≡ new
after-taken (refused number) old new value took = absurd (refused-not number value took)
after-taken (accepted place) old new value took = refl

-- the event that the code has placed, or not, is that of the board's own channel
module _ (b : Board) (n : ℕ) (old new : Channel) (is : channel_at b n ≡ old) (event : Option Event) (due : event ≡ level_event n old new) (events : List ℕ) (place : ℕ) where
  placed : (r : Result ℕ Refusal) (after : List ℕ) → placing r after ≡ place_event event events place → placed_on b (with_channel b n new) (placing r after) ≡ settle b n new events place
  unfolding settle
  placed r after e =
      ap (placed_on b (with_channel b n new))
      (e ∙ ap (λ d. place_event d events place) (due ∙ ap (λ (c : Channel). level_event n c new) (sym is)))

  -- where it is refused, the channel's own record leaves the board as it is
  pub settle-refused : (refusal : Refusal) (after : List ℕ) → placing (Err refusal) after ≡ place_event event events place
      → settled_on b n (Err refusal) old after ≡ settle b n new events place
  settle-refused refusal after e =
      ap (λ (d : Board). record { reply = reply_of (Err refusal); board = d; events = after }) (put-own b n old is) ∙ placed (Err refusal) after e

  pub settle-placed : (at : ℕ) (after : List ℕ) → placing (Ok at) after ≡ place_event event events place
      → settled_on b n (Ok (Place at)) new after ≡ settle b n new events place
  settle-placed at after e = placed (Ok at) after e

-- there is a board with any record at any place, any model and any defer flag
abbrev channels_with : ℕ → Channel → List Channel
channels_with zero c = c ∷ []
channels_with (suc n) c = blank ∷ channels_with n c

found-with : (n : ℕ) (c : Channel) → get_or (channels_with n c) n blank ≡ c
found-with zero c = refl
found-with (suc n) c = found-with n c

put-with : (n : ℕ) (c d : Channel) → set (channels_with n c) n d ≡ channels_with n d
put-with zero c d = refl
put-with (suc n) c d = ap (λ (l : List Channel). blank ∷ l) (put-with n c d)

abbrev board_with : ℕ → Channel → PitType → Bool → Board
board_with n c model defer =
    record {
      channels = channels_with n c;
      model = model;
      divisor = 0;
      remainder = record { 0 = 0 };
      warp = record { 0 = 0 };
      defer = defer;
      owed = record { 0 = 0 };
    }

-- so what the code answers, for any channel's number, is one answer: its outcomes on the boards that have the record fix it
pub settled-apart : (n : ℕ) (old : Channel) (model : PitType) (defer : Bool) (r s : Result Answer Refusal) (c d : Channel) (events then : List ℕ)
    → ((b : Board) → channel_at b n ≡ old → b.model ≡ model → b.defer ≡ defer → settled_on b n r c events ≡ settled_on b n s d then)
    → (r ≡ s) × (c ≡ d) × (events ≡ then)
settled-apart n old model defer r s c d events then same =
    let e = same (board_with n old model defer) (found-with n old) refl refl in
    let lists = sym (put-with n old c) ∙ ap (λ (o : Outcome). o.board.channels) e ∙ put-with n old d in (
      answers-apart r s (ap (λ (o : Outcome). o.reply) e),
      sym (found-with n c) ∙ ap (λ (l : List Channel). get_or l n blank) lists ∙ found-with n d,
      ap (λ (o : Outcome). o.events) e,
    )

module _ (b : Board) (events : List ℕ) (place : ℕ) where
  pub untouched-holds : (P : Board → Type 0) → P b → P (untouched b events place).board
  unfolding untouched
  untouched-holds P p = after_holds P (place_event None events place).reply b b p p

  module _ (n : ℕ) (c : Channel) where
    pub settle-holds : (P : Board → Type 0) → P b → P (with_channel b n c) → P (settle b n c events place).board
    unfolding settle
    settle-holds P = after_holds P (place_event (level_event n (channel_at b n) c) events place).reply b (with_channel b n c)

    pub settle-taken : (value : Value) → (settle b n c events place).reply ≡ accepted value → (settle b n c events place).board ≡ with_channel b n c
    unfolding settle
    settle-taken = after-taken (place_event (level_event n (channel_at b n) c) events place).reply b (with_channel b n c)
