-- What a call on a board in bytes comes to, as far as it gets. Assumes nothing.
use Prim.Native.Nat.{ℕ, ◌≤◌, ◌<◌}
use mathlib.Core.Bool.{true, false}
use mathlib.Core.List.{List}
use mathlib.Core.Path.{◌≡◌, refl, sym, ap, ◌∙◌}
use lib.Dec.{eqb}
use lib.ListN.{length, get_or}
use borrow.Author.Tests.{lt-ltb, le-ltb, eq-eqb, ne_eqb}
use Rattle.board_encoding.specs.Places.{board_size}
use Rattle.board_encoding.specs.Loaded.{board_readable, board_in, HoldsBoard}
use Rattle.std.specs.Prelude.{Option, Some, None, Ok, Err}
use Rattle.board_operation.specs.declared.Operation.{Operation}
use Rattle.board_operation.specs.declared.answering.Numbers.{Numbers}
use Rattle.board_operation.specs.Made.{operate}
use Rattle.board_operation.proofs.Leaves.{refused-leaves-all}
use Rattle.in_bytes.specs.declared.working.CallError.TheVariants.{Short, Unreadable, Unknown, NoRoom, Refused}
use Rattle.in_bytes.specs.Called.{board_answer_size, calling, stored, making, call_on, call}
use Rattle.in_bytes.specs.Inner.{InBytes, told, operated}
use Rattle.in_bytes.proofs.Standing.{kept}

module _ (asks : Option Operation) (room place : ℕ) (bytes events : List ℕ) where
  pub short-call : length bytes < board_size → calling (Err Short) bytes events ≡ call asks room place bytes events
  unfolding call
  short-call few = simp (lt-ltb _ _ few)

  pub unreadable-call : board_size ≤ length bytes → board_readable bytes ≡ false → calling (Err Unreadable) bytes events ≡ call asks room place bytes events
  unfolding call
  unreadable-call long is = rw (le-ltb _ _ long, is) refl

  whole-call : HoldsBoard bytes → call asks room place bytes events ≡ call_on (board_in bytes) asks room place bytes events
  unfolding call
  whole-call h = rw (le-ltb _ _ h.long, h.within) refl

  pub unknown-call : HoldsBoard bytes → asks ≡ None → calling (Err Unknown) bytes events ≡ call asks room place bytes events
  unknown-call h is = rw (whole-call h) (rw is refl)

  module _ (h : HoldsBoard bytes) (op : Operation) (is : asks ≡ Some op) where
    pub no-room : room < board_answer_size → calling (Err NoRoom) bytes events ≡ call asks room place bytes events
    no-room few = rw (whole-call h) (rw (is, lt-ltb _ _ few) refl)

    module _ (enough : board_answer_size ≤ room) (r : Numbers) (after then : List ℕ) (m : told r after then ≡ operated (operate (board_in bytes) op events place) bytes) where
      says : r ≡ (operate (board_in bytes) op events place).numbers
      says = ap (λ (x : InBytes). x.numbers) m

      made : call asks room place bytes events ≡ making (operate (board_in bytes) op events place) bytes events
      made = rw (whole-call h) (rw (is, le-ltb _ _ enough) refl)

      pub made-call : r.refusal ≡ 0 → calling (Ok r) after then ≡ call asks room place bytes events
      made-call none =
          let zero : eqb (operate (board_in bytes) op events place).numbers.refusal 0 ≡ true = ap (λ (n : Numbers). eqb n.refusal 0) (sym says) ∙ eq-eqb r.refusal 0 none in
          rw made (rw zero (ap (λ (x : InBytes). calling (Ok x.numbers) x.bytes x.events) m))

      -- a board that refuses is written back as it stands, which leaves the bytes as they were
      pub refused-call : ((p : ℕ) → get_or bytes p 0 < 256) → (r.refusal ≡ 0 → ⊥) → calling (Err (Refused r.refusal)) after then ≡ call asks room place bytes events
      refused-call all set =
          let same = ap (λ (n : Numbers). n.refusal) says in
          let zero : eqb (operate (board_in bytes) op events place).numbers.refusal 0 ≡ false = ap (λ (n : Numbers). eqb n.refusal 0) (sym says) ∙ ne_eqb r.refusal 0 set in
          let leaves = refused-leaves-all (board_in bytes) op events place (λ e. set (same ∙ e)) in
          let left : after ≡ bytes = ap (λ (x : InBytes). x.bytes) m ∙ ap (λ b. stored b bytes) leaves.0 ∙ kept bytes all h in
          rw made (rw zero (λ i. calling (Err (Refused (same i))) (left i) ((ap (λ (x : InBytes). x.events) m ∙ leaves.1) i)))
