-- Demand 3 as it was before there was a tick (specs/ByHand.antt): where none is worked off nothing is loaded, and the counts are those made by hand. Assumes nothing.
use Prim.Native.Nat.{ℕ, ◌+◌}
use mathlib.Core.Bool.{false}
use mathlib.Core.List.{List, [], ◌∷◌}
use mathlib.Core.Path.{◌≡◌, refl, ap₂}
use native.Mathlib.Nat.{zero-add, not-suc-le-zero}
use Rattle.refusal.specs.Reply.{Reply, refused}
use Rattle.channel.proofs.Pick.{pick_same}
use Rattle.board.specs.declared.Board.{Board}
use Rattle.board.specs.Outcome.{Value}
use Rattle.step.specs.Operation.{Operation, kind_of}
use Rattle.step.specs.Step.{step}
use Rattle.step.specs.Accepted.{IsAccepted, unless_refused, accepted_of}
use Rattle.step.proofs.Accepted.{by-reply}
use Rattle.reading.specs.Passing.{NoLoad, NoLoads}
use Rattle.reading.specs.Counts.{hand_in, ticks_made, counts_in, counts_on}
use Rattle.reading.specs.ByHand.{hand_on, NoTicks, ReadsByHand}
use Rattle.reading.proofs.Promise.{reads-the-count}

module _ (i : ℕ) where
  -- an operation that works no tick off, where it is accepted
  one-by-hand : (b : Board) (o : Operation) → (kind_of o).works ≡ false → IsAccepted b o → counts_in i b o ≡ hand_in i o
  one-by-hand b o none took = rw (took.1, none) refl

  -- no tick is made, so none loads
  no-tick : (b : Board) (o : Operation) → ticks_made b o ≡ 0 → NoLoad i b o
  no-tick b o none = rw none (λ k below. absurd (not-suc-le-zero below))

  no-ticks-refused : (b : Board) (o : Operation) (number : ℕ) → (step b o).reply ≡ refused number → ticks_made b o ≡ 0
  no-ticks-refused b o number e = rw (e, pick_same {A = ℕ} (kind_of o).works 0)

  pub no-ticks-no-loads : (b : Board) (os : List Operation) → NoTicks (accepted_of b os) → NoLoads i b os
  no-ticks-no-loads b [] none = tt
  no-ticks-no-loads b (o ∷ os) all =
      let later = accepted_of (step b o).board os in
      by-reply b o (λ (reply : Reply Value). NoTicks (unless_refused reply later (o ∷ later)) → NoLoads i b (o ∷ os))
      (λ number e none. (no-tick b o (no-ticks-refused b o number e), no-ticks-no-loads (step b o).board os none))
      (λ value e none. (no-tick b o (rw none.0), no-ticks-no-loads (step b o).board os none.1))
      all

  pub counts-by-hand : (b : Board) (os : List Operation) → NoTicks (accepted_of b os) → counts_on i b os ≡ hand_on i (accepted_of b os)
  counts-by-hand b [] none = refl
  counts-by-hand b (o ∷ os) all =
      let later = accepted_of (step b o).board os in
      by-reply b o (λ (reply : Reply Value). NoTicks (unless_refused reply later (o ∷ later)) → counts_on i b (o ∷ os) ≡ hand_on i (unless_refused reply later (o ∷ later)))
      (λ number e none. rw (e, zero-add) (counts-by-hand (step b o).board os none))
      (λ value e none. ap₂ (λ (m n : ℕ). m + n) (one-by-hand b o none.0 (value, e)) (counts-by-hand (step b o).board os none.1))
      all

pub reads-by-hand : ReadsByHand
reads-by-hand b i bcd v calls reading none = rw (← counts-by-hand i b calls.before none) (reads-the-count b i bcd v calls reading)
