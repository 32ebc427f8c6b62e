-- What a call of time comes to on every board with these fields. Assumes nothing.
use Prim.Native.Nat.{ℕ}
use mathlib.Core.Bool.{Bool, false, ◌||◌}
use mathlib.Core.Path.{◌≡◌, sym, ap, ◌∙◌}
use lib.Dec.{eqb}
use borrow.Author.Tests.{eq-eqb, ne_eqb}
use Rattle.std.specs.Prelude.{Result, Ok, Err}
use Rattle.refusal.specs.declared.Refusal.{Refusal}
use Rattle.refusal.specs.declared.Refusal.TheVariants.{DivisorZero, TicksOwed}
use Rattle.time.specs.declared.SystemTicks.{SystemTicks}
use Rattle.time.specs.declared.Conversion.{Conversion}
use Rattle.refusal.specs.Reply.{Reply}
use Rattle.time.specs.Time.{Yield, passed_reply, ticks_from_time}
use Rattle.board.specs.declared.Board.{Board}
use Rattle.board.specs.declared.Answer.{Answer}
use Rattle.board.specs.declared.Answer.TheVariants.{Ticks}
use Rattle.board.specs.Outcome.{Outcome}
use Rattle.board.proofs.Apart.{answers-apart}
use Rattle.clock.specs.declared.Clock.{Clock}
use Rattle.clock.specs.Clock.{elapsed, yielding, elapse}
use Rattle.clock.specs.Elapsed.{clock_of, elapsed_on}

-- what the code asks of `ticks_from_time`
abbrev asked : ℕ → Clock → Reply Yield
asked given t = ticks_from_time given t.warp.0 t.remainder.0 t.divisor

module _ (b : Board) {time : Clock} (has : clock_of b ≡ time) where
  -- what the code is answered by `ticks_from_time`, which it gives the fields
  passed : (given : ℕ) (r : Result Conversion Refusal) → passed_reply r ≡ asked given time → elapsed b given ≡ passed_reply r
  passed given r is = ap (asked given) has ∙ sym is

  module _ (given next : ℕ) (defers : Bool) where
    pub no-divisor : time.divisor ≡ 0 → elapsed_on b (Err DivisorZero) time ≡ elapse b given next defers
    no-divisor none = ap (elapsed_on b (Err DivisorZero)) (sym has) ∙ simp (eq-eqb _ _ (ap (λ (t : Clock). t.divisor) has ∙ none))

    module _ (some : time.divisor ≡ 0 → ⊥) where
      divides : eqb b.divisor 0 ≡ false
      divides = ap (λ (t : Clock). eqb t.divisor 0) has ∙ ne_eqb _ _ some

      pub ticks-owed : (time.owed.0 ≡ 0 → ⊥) → elapsed_on b (Err TicksOwed) time ≡ elapse b given next defers
      ticks-owed owes =
          ap (elapsed_on b (Err TicksOwed)) (sym has) ∙ simp (divides, ap (λ (t : Clock). eqb t.owed.0 0) has ∙ ne_eqb _ _ owes)

      module _ (none : time.owed.0 ≡ 0) where
        none-owed : yielding b next defers (elapsed b given) ≡ elapse b given next defers
        none-owed = simp (divides, ap (λ (t : Clock). eqb t.owed.0 0) has ∙ eq-eqb _ _ none)

        -- the time is refused, and all stays
        pub refuses : (refusal : Refusal) → passed_reply (Err refusal) ≡ asked given time
            → elapsed_on b (Err refusal) time ≡ elapse b given next defers
        refuses refusal is =
            ap (elapsed_on b (Err refusal)) (sym has) ∙ ap (yielding b next defers) (sym (passed given (Err refusal) is)) ∙ none-owed

  -- .. or it yields timer ticks
  pub yields : (given : ℕ) (next : SystemTicks) (defers : Bool) → (time.divisor ≡ 0 → ⊥) → time.owed.0 ≡ 0 → (made : Conversion)
      → passed_reply (Ok made) ≡ asked given time
      → elapsed_on b (Ok (Ticks made.ticks)) (record { divisor = time.divisor; remainder = made.remainder; warp = next; defer = defers || time.defer; owed = made.ticks })
      ≡ elapse b given next.0 (defers || b.defer)
  yields given next defers some none made is =
      ap
      (λ (t : Clock). elapsed_on b (Ok (Ticks made.ticks)) (record { divisor = t.divisor; remainder = made.remainder; warp = next; defer = defers || t.defer; owed = made.ticks }))
      (sym has)
      ∙ ap (yielding b next.0 (defers || b.defer)) (sym (passed given (Ok made) is))
      ∙ none-owed given next.0 (defers || b.defer) some none

-- what the code answers is fixed by the outcome on any board
pub elapsed-apart : (b : Board) (r s : Result Answer Refusal) (time other : Clock) → elapsed_on b r time ≡ elapsed_on b s other → (r ≡ s) × (time ≡ other)
elapsed-apart b r s time other e = (answers-apart r s (ap (λ (o : Outcome). o.reply) e), ap (λ (o : Outcome). clock_of o.board) e)
