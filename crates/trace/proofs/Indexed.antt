-- The operations of a sound trace are those that its indices give, one by one. Assumes nothing.
use Prim.Native.Nat.{ℕ, zero, suc, ◌+◌, ◌<◌}
use mathlib.Core.Path.{◌≡◌, sym, subst}
use mathlib.Core.List.{List, ◌∷◌}
use native.Mathlib.Nat.{zero-add, add-zero, add-suc, suc-add, not-suc-le-zero, le_of_suc-le-suc}
use lib.ListN.{length, get_or}
use Rattle.trace.specs.declared.head.Head.{Head}
use Rattle.trace.specs.declared.operation.Operation.{Operation}
use Rattle.trace.specs.Judgement.{sound, and_then}
use Rattle.trace.specs.Head.{read_head}
use Rattle.trace.specs.Operation.{operation_at}
use Rattle.trace.specs.Section.{section_three}
use Rattle.trace.specs.Trace.{Trace, before, operations_from, trace_of, after_head, read_trace}
use Rattle.trace.proofs.Values.{OfSound, itself, through, anyhow}
use Rattle.trace.proofs.Turns.{Counts, as_many}

-- the indices from i on give these operations
abbrev Gives : List ℕ → ℕ → List Operation → Type 0
Gives bytes i os = (k : ℕ) → k < length os → (d : Operation) → operation_at bytes (i + k) ≡ sound (get_or os k d)

one-more : (bytes : List ℕ) (i : ℕ) (o : Operation) (os : List Operation) → operation_at bytes i ≡ sound o → Gives bytes (suc i) os → Gives bytes i (o ∷ os)
one-more bytes i o os first rest zero l d = rw (add-zero i) first
one-more bytes i o os first rest (suc k) l d = rw (add-suc i k) (rw (sym (suc-add i k)) (rest k (le_of_suc-le-suc l) d))

all_give : (bytes : List ℕ) (i n : ℕ) → OfSound (Gives bytes i) (operations_from bytes i n)
all_give bytes i zero = λ k l d. absurd (not-suc-le-zero l)
all_give bytes i (suc n) =
    through (λ (o : Operation). operation_at bytes i ≡ sound o) (Gives bytes i) (operation_at bytes i) (before (operations_from bytes (suc i) n))
    (itself (operation_at bytes i))
    (λ o first.
    through (Gives bytes (suc i)) (Gives bytes i) (operations_from bytes (suc i) n) (λ os. sound (o ∷ os)) (all_give bytes (suc i) n)
    (λ os rest. one-more bytes i o os first rest))

pub from-index : (bytes : List ℕ) (i n : ℕ) (os : List Operation) → operations_from bytes i n ≡ sound os → (k : ℕ) → k < n → (d : Operation)
    → operation_at bytes (i + k) ≡ sound (get_or os k d)
from-index bytes i n os e k l d =
    let many : length os ≡ n = subst (Counts n) e (as_many bytes i n) in
    subst (OfSound (Gives bytes i)) e (all_give bytes i n) k (subst (λ (m : ℕ). k < m) (sym many) l) d

pub at-index : (bytes : List ℕ) (t : Trace) → read_trace bytes ≡ sound t → (k : ℕ) → k < length t.operations → (d : Operation)
    → operation_at bytes k ≡ sound (get_or t.operations k d)
unfolding read_trace
at-index bytes t e k l d =
    let Whole : Trace → Type 0 = λ t. Gives bytes 0 t.operations in
    let whole : OfSound Whole (and_then (read_head bytes) (after_head bytes)) =
    through (λ (h : Head). read_head bytes ≡ sound h) Whole (read_head bytes) (after_head bytes) (itself (read_head bytes))
    (λ h u. through (Gives bytes 0) Whole (operations_from bytes 0 h.operations) (λ os. and_then (section_three bytes h.operations) (λ there. sound (trace_of h os))) (all_give bytes 0 h.operations)
    (λ os gives. through (λ (u : Unit). Unit) Whole (section_three bytes h.operations) (λ there. sound (trace_of h os)) (anyhow (section_three bytes h.operations)) (λ there none. gives))) in
    subst (λ (i : ℕ). operation_at bytes i ≡ sound (get_or t.operations k d)) (zero-add k) (subst (OfSound Whole) e whole k l d)
