-- How long the bytes of a sound trace are at least: all its operations stand in them. Assumes nothing.
use Prim.Native.Nat.{ℕ, zero, suc, ◌+◌, ◌≤◌}
use mathlib.Core.Bool.{not}
use mathlib.Core.List.{List, ◌∷◌}
use mathlib.Core.Path.{◌≡◌, refl, sym, ap, subst}
use native.Mathlib.Nat.{add-zero}
use native.Mathlib.Omega.{arith}
use lib.Dec.{ltb, eqb}
use lib.ListN.{length}
use borrow.Author.Tests.{ltb-false}
use Rattle.channel.proofs.Pick.{pick-holds, pick-knowing}
use Rattle.numbers.specs.Number.{number_at}
use Rattle.trace.specs.declared.head.Head.{Head}
use Rattle.trace.specs.declared.operation.Operation.{Operation}
use Rattle.trace.specs.Judgement.{Judgement, refused_by, sound, and_then}
use Rattle.trace.specs.Head.{read_head}
use Rattle.trace.specs.Operation.{place_of, six_bytes, operation_at}
use Rattle.trace.specs.Section.{section_three}
use Rattle.trace.specs.Trace.{Trace, before, operations_from, trace_of, after_head, read_trace}
use Rattle.trace.proofs.Values.{OfSound, anyhow, through}

head-long : (bytes : List ℕ) → OfSound (λ (h : Head). place_of 0 ≤ length bytes) (read_head bytes)
unfolding read_head
head-long bytes =
    let P : Judgement Head → Type 0 = OfSound (λ (h : Head). place_of 0 ≤ length bytes) in
    let number = number_at bytes in
    let long = length bytes in
    pick-holds P (ltb long 4) _ _ tt (pick-holds P (not (eqb (number 0) 2)) _ _ tt
    (pick-holds P (ltb long 8) _ _ tt (pick-holds P (eqb (number 4) 0) _ _ tt
    (pick-holds P (ltb long 12) _ _ tt (pick-holds P (ltb 1 (number 8)) _ _ tt
    (pick-knowing P (ltb long 16) _ _ (λ short. tt) (λ there. pick-holds P (ltb 4096 (number 12)) _ _ tt (ltb-false long 16 there))))))))

-- what holds anyway
always : {A : Type 0} {P : Type 0} (j : Judgement A) → P → OfSound (λ (a : A). P) j
always (refused_by f) p = tt
always (sound a) p = p

operation-long : (bytes : List ℕ) (i : ℕ) → OfSound (λ (o : Operation). place_of (suc i) ≤ length bytes) (operation_at bytes i)
unfolding operation_at
operation-long bytes i =
    pick-knowing (OfSound (λ (o : Operation). place_of (suc i) ≤ length bytes)) (ltb (length bytes) (place_of i + 6)) _ _ (λ short. tt)
    (λ there. always (six_bytes bytes i (place_of i)) (omega (arith, ltb-false (length bytes) (place_of i + 6) there)))

abbrev Stand : List ℕ → ℕ → ℕ → List Operation → Type 0
Stand bytes i n os = (length os ≡ n) × (place_of (i + n) ≤ length bytes)

operations-long : (bytes : List ℕ) (i n : ℕ) → place_of i ≤ length bytes → OfSound (Stand bytes i n) (operations_from bytes i n)
operations-long bytes i zero h = (refl, subst (λ (k : ℕ). place_of k ≤ length bytes) (sym (add-zero i)) h)
operations-long bytes i (suc n) h =
    let next : suc i + n ≡ i + suc n = omega arith in
    through (λ (o : Operation). place_of (suc i) ≤ length bytes) (Stand bytes i (suc n)) (operation_at bytes i) (before (operations_from bytes (suc i) n)) (operation-long bytes i)
    (λ o first.
    through (Stand bytes (suc i) n) (Stand bytes i (suc n)) (operations_from bytes (suc i) n) (λ os. sound (o ∷ os)) (operations-long bytes (suc i) n first)
    (λ os all. (ap suc all.0, subst (λ (k : ℕ). place_of k ≤ length bytes) next all.1)))

pub trace-long : (bytes : List ℕ) (t : Trace) → read_trace bytes ≡ sound t → place_of (length t.operations) ≤ length bytes
unfolding read_trace
trace-long bytes t is =
    let P : Trace → Type 0 = λ t. place_of (length t.operations) ≤ length bytes in
    let whole : OfSound P (and_then (read_head bytes) (after_head bytes)) =
    through (λ (h : Head). place_of 0 ≤ length bytes) P (read_head bytes) (after_head bytes) (head-long bytes)
    (λ h first.
    through (Stand bytes 0 h.operations) P (operations_from bytes 0 h.operations) _ (operations-long bytes 0 h.operations first)
    (λ os all.
    through (λ (u : Unit). Unit) P (section_three bytes h.operations) (λ there. sound (trace_of h os)) (anyhow (section_three bytes h.operations))
    (λ there none. omega (arith, all.0, all.1)))) in
    subst (OfSound P) is whole
