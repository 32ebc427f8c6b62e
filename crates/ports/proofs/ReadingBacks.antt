-- A read-back of a board: each channel that is named is read back, and every other stays; no output moves. With three records it leaves each as the code leaves it, and what the code
-- answers is one answer. Assumes nothing.
use Prim.Native.Nat.{ℕ, zero, suc, ◌<◌}
use mathlib.Core.List.{List, [], ◌∷◌}
use mathlib.Core.Bool.{Bool, true, false}
use mathlib.Core.Path.{◌≡◌, refl, sym, ap, subst, ◌∙◌}
use native.Mathlib.Omega.{arith}
use lib.Dec.{eqb}
use lib.ListN.{length, get_or, set, length-set}
use borrow.Author.Tests.{eqb-true, eqb-false}
use Rattle.refusal.specs.Reply.{accepted}
use Rattle.channel.specs.declared.Channel.{Channel}
use Rattle.channel.specs.declared.PitType.TheVariants.{Model8254}
use Rattle.channel.specs.Blank.{blank}
use Rattle.channel.proofs.Pick.{pick-holds}
use Rattle.control.specs.declared.ReadBackWord.{ReadBackWord}
use Rattle.control.specs.Control.{names}
use Rattle.latch.specs.ReadBack.{read_back}
use Rattle.std.specs.Prelude.{None, Result, Ok, Err}
use Rattle.refusal.specs.declared.Refusal.{Refusal}
use Rattle.event.specs.Event.{placing, place_event}
use Rattle.board.specs.declared.Board.{Board}
use Rattle.board.specs.Board.{channel_at, with_channel}
use Rattle.board.proofs.Channels.{put-found, put_other, put-own}
use Rattle.board.specs.Outcome.{Outcome, Value}
use Rattle.board.proofs.Apart.{answers-apart}
use Rattle.board.specs.declared.Answer.{Answer}
use Rattle.board.specs.declared.Answer.TheVariants.{Place}
use Rattle.ports.specs.Settle.{placed_on}
use Rattle.ports.specs.Settled.{read_on}
use Rattle.ports.specs.ReadBacks.{read_back_at, read_backs, read_back_write}
use Rattle.ports.proofs.Settling.{after_holds, after-taken}

module _ (b : Board) (channels : List Channel) (has : b.channels ≡ channels) (word : ReadBackWord) (events : List ℕ) (place : ℕ) where
  -- where it is refused the board stays
  pub three-refused : (refusal : Refusal) (after : List ℕ) → placing (Err refusal) after ≡ place_event None events place
      → read_on b (Err refusal) channels after ≡ read_back_write b word events place
  three-refused refusal after e =
      ap (λ (cs : List Channel). read_on b (Err refusal) cs after) (sym has) ∙ ap (placed_on b (read_backs word b)) e

  -- where it is taken, each of the three is as the code leaves it
  pub three-read : {c₀ c₁ c₂ d₀ d₁ d₂ : Channel} → channels ≡ c₀ ∷ c₁ ∷ c₂ ∷ [] → d₀ ≡ read_back_at word 0 c₀ → d₁ ≡ read_back_at word 1 c₁ → d₂ ≡ read_back_at word 2 c₂
      → (at : ℕ) (after : List ℕ) → placing (Ok at) after ≡ place_event None events place
      → read_on b (Ok (Place at)) (d₀ ∷ d₁ ∷ d₂ ∷ []) after ≡ read_back_write b word events place
  unfolding read_backs
  three-read three r₀ r₁ r₂ at after e =
      (λ i. read_on b (Ok (Place at)) (r₀ i ∷ r₁ i ∷ r₂ i ∷ []) after)
      ∙ ap
      (λ (cs : List Channel). read_on b (Ok (Place at))
      (set (set (set cs 0 (read_back_at word 0 (get_or cs 0 blank))) 1 (read_back_at word 1 (get_or cs 1 blank))) 2 (read_back_at word 2 (get_or cs 2 blank)))
      after)
      (sym (has ∙ three))
      ∙ ap (placed_on b (read_backs word b)) e

-- there is a board with any records, so what the code answers is fixed
abbrev board_of : List Channel → Board
board_of channels =
    record {
      channels = channels;
      model = Model8254;
      divisor = 0;
      remainder = record { 0 = 0 };
      warp = record { 0 = 0 };
      defer = false;
      owed = record { 0 = 0 };
    }

pub three-read-apart : (channels : List Channel) (r s : Result Answer Refusal) (after other : List Channel) (events then : List ℕ)
    → ((b : Board) → b.channels ≡ channels → read_on b r after events ≡ read_on b s other then)
    → (r ≡ s) × (after ≡ other) × (events ≡ then)
three-read-apart channels r s after other events then same =
    let e = same (board_of channels) refl in (
      answers-apart r s (ap (λ (o : Outcome). o.reply) e),
      ap (λ (o : Outcome). o.board.channels) e,
      ap (λ (o : Outcome). o.events) e,
    )

-- a record put where it stands, or elsewhere, is not seen
put-unseen : (b : Board) (n m : ℕ) (c : Channel) → (m ≡ n → c ≡ channel_at b m) → channel_at (with_channel b n c) m ≡ channel_at b m
put-unseen b n m c own = go (eqb m n) refl
  where
    go : (t : Bool) → eqb m n ≡ t → channel_at (with_channel b n c) m ≡ channel_at b m
    go true e =
        let is = eqb-true m n e in
        ap (λ (d : Board). channel_at d m) (put-own b n c (ap (channel_at b) (sym is) ∙ sym (own is)))
    go false e = put_other b n m c (eqb-false m n e)

module _ (b : Board) (word : ReadBackWord) where
  abbrev read : ℕ → Channel
  read n = read_back_at word n (channel_at b n)

  unnamed : (n m : ℕ) → names word m ≡ false → m ≡ n → read n ≡ channel_at b m
  unfolding read_back_at
  unnamed n m none is = subst (λ k. read k ≡ channel_at b m) is (rw none refl)

  -- "the channels named"
  pub unnamed-stays : (m : ℕ) → names word m ≡ false → channel_at (read_backs word b) m ≡ channel_at b m
  unfolding read_backs
  unnamed-stays m none =
      let first = put-unseen b 0 m (read 0) (unnamed 0 m none) in
      let second = put-unseen (with_channel b 0 (read 0)) 1 m (read 1) (λ is. unnamed 1 m none is ∙ sym first) ∙ first in
      put-unseen (with_channel (with_channel b 0 (read 0)) 1 (read 1)) 2 m (read 2) (λ is. unnamed 2 m none is ∙ sym second) ∙ second

  module _ (three : length b.channels ≡ 3) where
    two-left : length (with_channel (with_channel b 0 (read 0)) 1 (read 1)).channels ≡ 3
    two-left = length-set (with_channel b 0 (read 0)).channels 1 (read 1) ∙ length-set b.channels 0 (read 0) ∙ three

    pub three-left : length (read_backs word b).channels ≡ 3
    unfolding read_backs
    three-left = length-set (with_channel (with_channel b 0 (read 0)) 1 (read 1)).channels 2 (read 2) ∙ two-left

    pub each_read : (m : ℕ) → m < 3 → channel_at (read_backs word b) m ≡ read m
    unfolding read_backs
    each_read zero on =
        put_other (with_channel (with_channel b 0 (read 0)) 1 (read 1)) 2 0 (read 2) (λ e. omega arith)
        ∙ put_other (with_channel b 0 (read 0)) 1 0 (read 1) (λ e. omega arith)
        ∙ put-found b three 0 on (read 0)
    each_read (suc zero) on =
        put_other (with_channel (with_channel b 0 (read 0)) 1 (read 1)) 2 1 (read 2) (λ e. omega arith)
        ∙ put-found (with_channel b 0 (read 0)) (length-set b.channels 0 (read 0) ∙ three) 1 on (read 1)
    each_read (suc (suc zero)) on =
        put-found (with_channel (with_channel b 0 (read 0)) 1 (read 1)) two-left 2 on (read 2)
    each_read (suc (suc (suc m))) on = absurd (omega arith)

    -- what a read-back of a channel keeps, it keeps on the board
    pub kept-everywhere : {A : Type 0} (f : Channel → A) → ((counts status : Bool) (c : Channel) → f (read_back counts status c) ≡ f c)
        → (m : ℕ) → f (channel_at (read_backs word b) m) ≡ f (channel_at b m)
    unfolding read_back_at
    kept-everywhere f keeps m = at m
      where
        there : (n : ℕ) → n < 3 → f (channel_at (read_backs word b) n) ≡ f (channel_at b n)
        there n on =
            ap f (each_read n on)
            ∙ pick-holds (λ (d : Channel). f d ≡ f (channel_at b n)) (names word n) _ (channel_at b n) (keeps word.counts word.status (channel_at b n)) refl

        at : (n : ℕ) → f (channel_at (read_backs word b) n) ≡ f (channel_at b n)
        at zero = there 0 (omega arith)
        at (suc zero) = there 1 (omega arith)
        at (suc (suc zero)) = there 2 (omega arith)
        at (suc (suc (suc n))) = ap f (unnamed-stays (suc (suc (suc n))) refl)

module _ (b : Board) (events : List ℕ) (place : ℕ) (word : ReadBackWord) where
  pub read-backs-hold : (P : Board → Type 0) → P b → P (read_backs word b) → P (read_back_write b word events place).board
  read-backs-hold P = after_holds P (place_event None events place).reply b (read_backs word b)

  pub read-backs-taken : (value : Value) → (read_back_write b word events place).reply ≡ accepted value
      → (read_back_write b word events place).board ≡ read_backs word b
  read-backs-taken = after-taken (place_event None events place).reply b (read_backs word b)
