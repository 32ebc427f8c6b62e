-- So many ticks of the board: what they leave of it, and that a run of them which moves no output is made in one step. Assumes nothing.
use Prim.Native.Nat.{ℕ, zero, suc, ◌+◌, ◌-◌, ◌<◌, ◌≤◌}
use mathlib.Core.Bool.{Bool, false}
use mathlib.Core.List.{List, [], ◌∷◌}
use mathlib.Core.Path.{◌≡◌, refl, sym, ap, ap₂, ◌∙◌}
use native.Mathlib.Nat.{add-zero, sub-zero}
use native.Mathlib.Omega.{arith}
use lib.ListN.{length}
use borrow.Author.Tests.{le-ltb, ne_eqb}
use Rattle.numbers.specs.Times.{times}
use Rattle.channel.specs.declared.Channel.{Channel}
use Rattle.tick.specs.Tick.{tick}
use Rattle.quiet.specs.Inner.{skip}
use Rattle.event.specs.declared.Event.{Event}
use Rattle.std.specs.Prelude.{Option, None}
use Rattle.event.specs.Event.{event_of}
use Rattle.event.proofs.Room.{standing-level}
use Rattle.board.specs.declared.Board.{Board}
use Rattle.board.specs.Board.{channel_at, owing}
use Rattle.board.proofs.Channels.{three-are}
use Rattle.owed.specs.BoardTick.{board_tick, tick_event}
use Rattle.owed.specs.Inner.{Skips}
use Rattle.owed.specs.Worked.{Room, put, size, needed, Work, one_more, stops, work_up_to}

-- a channel of the board, so many ticks later
abbrev later_at : Board → ℕ → ℕ → Channel
later_at b k n = times k (tick b.model) (channel_at b n)

abbrev all_later : Board → ℕ → List Channel
all_later b k = later_at b k 0 ∷ later_at b k 1 ∷ later_at b k 2 ∷ []

-- what so many ticks leave of a board with three channels
ticks-are : (k : ℕ) (b : Board) → length b.channels ≡ 3 → times k board_tick b ≡ owing b (b.owed.0 - k) (all_later b k)
unfolding board_tick
ticks-are zero b three = ap₂ (owing b) (sym (sub-zero b.owed.0)) (three-are b.channels three)
ticks-are (suc k) b three =
    let fewer : b.owed.0 - k - 1 ≡ b.owed.0 - suc k = omega arith in
    ap board_tick (ticks-are k b three) ∙ ap (λ n. owing b n (all_later b (suc k))) fewer

module _ (b : Board) (three : length b.channels ≡ 3) where
  same-model : (k : ℕ) → (times k board_tick b).model ≡ b.model
  same-model k = ap (λ (d : Board). d.model) (ticks-are k b three)

  channel-is : (k n : ℕ) → n < 3 → channel_at (times k board_tick b) n ≡ later_at b k n
  channel-is k zero few = ap (λ (d : Board). channel_at d 0) (ticks-are k b three)
  channel-is k (suc zero) few = ap (λ (d : Board). channel_at d 1) (ticks-are k b three)
  channel-is k (suc (suc zero)) few = ap (λ (d : Board). channel_at d 2) (ticks-are k b three)
  channel-is k (suc (suc (suc n))) few = absurd (omega arith)

-- no output moves in so many ticks
abbrev Still : Board → ℕ → Type 0
Still b k = (n : ℕ) → n < 3 → (j : ℕ) → j ≤ k → (later_at b j n).pins.output ≡ (channel_at b n).pins.output

no-event : (n : ℕ) (was is : Bool) → is ≡ was → event_of n was is ≡ None
no-event n was is same = ap (event_of n was) same ∙ standing-level n was

-- a tick with no event needs no room and leaves it as it is
no_size : (e₀ e₁ e₂ : Option Event) → e₀ ≡ None → e₁ ≡ None → e₂ ≡ None → size e₀ + size e₁ + size e₂ ≡ 0
no_size e₀ e₁ e₂ n₀ n₁ n₂ = simp (n₀, n₁, n₂)

same-room : (e₀ e₁ e₂ : Option Event) → e₀ ≡ None → e₁ ≡ None → e₂ ≡ None → (room : Room) → put e₂ (put e₁ (put e₀ room)) ≡ room
same-room e₀ e₁ e₂ n₀ n₁ n₂ room = simp (n₀, n₁, n₂)

module _ (b : Board) (three : length b.channels ≡ 3) (k : ℕ) (still : Still b (suc k)) where
  quiet-tick : (n : ℕ) → n < 3 → tick_event (times k board_tick b) n ≡ None
  quiet-tick n few =
      let d = times k board_tick b in
      let here : channel_at d n ≡ later_at b k n = channel-is b three k n few in
      let next : tick d.model (channel_at d n) ≡ later_at b (suc k) n = ap₂ tick (same-model b three k) here in
      no-event n _ _
      (ap (λ (c : Channel). c.pins.output) next ∙ still n few (suc k) (omega arith) ∙ sym (still n few k (omega arith)) ∙ sym (ap (λ (c : Channel). c.pins.output) here))

-- the work after so many ticks with no event
abbrev quietly : ℕ → Work → Work
quietly k w = record { made = w.made + k; board = times k board_tick w.board; room = w.room }

-- one tick more of them
one-quietly : (k : ℕ) (w : Work) → length w.board.channels ≡ 3 → Still w.board (suc k) → suc k ≤ w.board.owed.0
    → (stops (quietly k w) ≡ false) × (one_more (quietly k w) ≡ quietly (suc k) w)
one-quietly k w three still owed =
    let b = w.board in
    let d = times k board_tick b in
    let event = quiet-tick b three k still in
    let n₀ = event 0 (omega arith) in
    let n₁ = event 1 (omega arith) in
    let n₂ = event 2 (omega arith) in
    let left : d.owed.0 ≡ b.owed.0 - k = ap (λ (e : Board). e.owed.0) (ticks-are k b three) in
    let some : d.owed.0 ≡ 0 → ⊥ = λ none. omega (arith, left, none, owed) in
    let none : needed d ≡ 0 = no_size _ _ _ n₀ n₁ n₂ in
    let enough : needed d ≤ length w.room.bytes - w.room.place = omega (arith, none) in
    let count : w.made + k + 1 ≡ w.made + suc k = omega arith in (
      simp (ne_eqb _ _ some, le-ltb _ _ enough),
      ap₂ (λ (n : ℕ) (r : Room). record { made = n; board = board_tick d; room = r }) count (same-room _ _ _ n₀ n₁ n₂ w.room),
    )

-- a run of ticks with no event, made in one step
run-at-once : (k left : ℕ) (w : Work) → length w.board.channels ≡ 3 → Still w.board k → k ≤ left → k ≤ w.board.owed.0
    → work_up_to left w ≡ work_up_to (left - k) (quietly k w)
run-at-once zero left w three still few owed =
    ap₂ (λ (n m : ℕ). work_up_to n (record { made = m; board = w.board; room = w.room })) (sym (sub-zero left)) (sym (add-zero w.made))
run-at-once (suc k) left w three still few owed =
    let one : left - k ≡ suc (left - suc k) = omega arith in
    let step = one-quietly k w three still owed in
    run-at-once k left w three (λ n small j under. still n small j (omega arith)) (omega arith) (omega arith)
    ∙ rw one (simp step.0)
    ∙ ap (work_up_to (left - suc k)) step.1

-- a run that all three channels skip
module _ (k : ℕ) (c₀ c₁ c₂ : Channel) (s₀ : Skips k c₀) (s₁ : Skips k c₁) (s₂ : Skips k c₂) (b : Board) (owed : ℕ) where
  abbrev before : Board
  before = owing b owed (c₀ ∷ c₁ ∷ c₂ ∷ [])

  skips-still : Still before k
  skips-still zero small = s₀.still b.model
  skips-still (suc zero) small = s₁.still b.model
  skips-still (suc (suc zero)) small = s₂.still b.model
  skips-still (suc (suc (suc n))) small = absurd (omega arith)

  skips-ticked : times k board_tick before ≡ owing b (owed - k) (skip k c₀ ∷ skip k c₁ ∷ skip k c₂ ∷ [])
  skips-ticked = ticks-are k before refl ∙ sym (simp (s₀.ticked b.model, s₁.ticked b.model, s₂.ticked b.model))

  pub skips-at-once : (left made : ℕ) (room : Room) → k ≤ left → k ≤ owed
      → work_up_to left (record { made = made; board = before; room = room })
      ≡ work_up_to (left - k) (record { made = made + k; board = owing b (owed - k) (skip k c₀ ∷ skip k c₁ ∷ skip k c₂ ∷ []); room = room })
  skips-at-once left made room few owes =
      run-at-once k left (record { made = made; board = before; room = room }) refl skips-still few owes
      ∙ ap (λ (d : Board). work_up_to (left - k) (record { made = made + k; board = d; room = room })) skips-ticked
