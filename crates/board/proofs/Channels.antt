-- The channels of a board: a record put at its place is found there, the others stay where they are, of two put there the later stands, and its own changes
-- nothing; and what a call with refusal 2 comes to. Assumes nothing.
use Prim.Native.Nat.{ℕ, ◌<◌, ◌≤◌}
use mathlib.Core.Bool.{false}
use mathlib.Core.List.{List, [], ◌∷◌}
use mathlib.Core.Path.{◌≡◌, refl, sym, ap, ◌∙◌}
use native.Mathlib.Omega.{arith}
use lib.Dec.{ltb}
use lib.ListN.{length, get_or}
use lib.Seq.{get_or-set_same, get_or-set_other, set-set, set-get_or}
use borrow.Author.Tests.{ltb-false, le-ltb}
use Rattle.channel.specs.declared.Channel.{Channel}
use Rattle.channel.specs.Blank.{blank}
use Rattle.channel.proofs.Pick.{pick-knowing}
use Rattle.board.specs.declared.Board.{Board}
use Rattle.board.specs.Board.{channel_at, with_channels, with_channel}
use Rattle.board.specs.Outcome.{Outcome, refuse, on_channel}

-- a board's list is its three channels
pub three-are : (xs : List Channel) → length xs ≡ 3 → xs ≡ get_or xs 0 blank ∷ get_or xs 1 blank ∷ get_or xs 2 blank ∷ []
three-are [] three = absurd (omega arith)
three-are (x ∷ []) three = absurd (omega arith)
three-are (x ∷ y ∷ []) three = absurd (omega arith)
three-are (x ∷ y ∷ z ∷ []) three = refl
three-are (x ∷ y ∷ z ∷ w ∷ xs) three = absurd (omega arith)

pub put-found : (b : Board) → length b.channels ≡ 3 → (n : ℕ) → n < 3 → (c : Channel) → channel_at (with_channel b n c) n ≡ c
put-found b three n on c = get_or-set_same b.channels n c blank (rw three on)

pub put_other : (b : Board) (n m : ℕ) (c : Channel) → (m ≡ n → ⊥) → channel_at (with_channel b n c) m ≡ channel_at b m
put_other b n m c other = get_or-set_other b.channels n m c blank other

pub put-again : (b : Board) (n : ℕ) (c d : Channel) → with_channel (with_channel b n c) n d ≡ with_channel b n d
put-again b n c d = ap (with_channels b) (set-set b.channels n c d)

pub put-own : (b : Board) (n : ℕ) (c : Channel) → channel_at b n ≡ c → with_channel b n c ≡ b
put-own b n c is = ap (with_channel b n) (sym is) ∙ ap (with_channels b) (set-get_or b.channels n blank)

-- refusal 2 is not given to a channel of the board
pub not-above : (n : ℕ) → n < 3 → ltb 2 n ≡ false
not-above n on = let h : n ≤ 2 = omega arith in le-ltb 2 n h

-- what holds of the refusal, and on a channel of the board of the outcome, holds of the call
pub by-channel : (P : Outcome → Type 0) (b : Board) (n : ℕ) (events : List ℕ) (outcome : Outcome) → P (refuse 2 b events) → (n < 3 → P outcome)
    → P (on_channel b n events outcome)
by-channel P b n events outcome refuses takes =
    pick-knowing P (ltb 2 n) (refuse 2 b events) outcome (λ above. refuses) (λ on. let h : n ≤ 2 = ltb-false 2 n on in takes (omega arith))
