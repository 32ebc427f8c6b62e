-- The operations of a trace, one after another: what the first says of all of them, how many there are, and the whole trace in its parts. Assumes nothing.
use Prim.Native.Nat.{ℕ, zero, suc, ◌-◌, ◌<◌}
use mathlib.Core.Path.{◌≡◌, refl, ap}
use mathlib.Core.List.{List}
use native.Mathlib.Omega.{arith}
use lib.ListN.{length}
use Rattle.trace.specs.declared.head.Head.{Head}
use Rattle.trace.specs.declared.operation.Operation.{Operation}
use Rattle.trace.specs.Judgement.{Judgement, refused_by, sound, and_then}
use Rattle.trace.specs.Head.{read_head}
use Rattle.trace.specs.Operation.{operation_at}
use Rattle.trace.specs.Section.{section_three}
use Rattle.trace.specs.Trace.{before, operations_from, trace_of, after_head, read_trace}
use Rattle.trace.specs.Answer.{summary}
use Rattle.trace.specs.Inner.{soundness, behind_head}

-- where k is below n, one operation is left, and those after it
left_one : (k n : ℕ) → k < n → n - k ≡ suc (n - suc k)
left_one k n h = omega arith

before-sound : (rest : Judgement (List Operation)) (o : Operation) → soundness (before rest o) ≡ soundness rest
before-sound (refused_by f) o = refl
before-sound (sound os) o = refl

before_sound : (j : Judgement Operation) (rest : Judgement (List Operation))
    → soundness (and_then j (before rest)) ≡ and_then j (λ o. soundness rest)
before_sound (refused_by f) rest = refl
before_sound (sound o) rest = before-sound rest o

-- of the operations from k on the first is judged, then those after it
pub one_step : (bytes : List ℕ) (k n : ℕ) → k < n
    → soundness (operations_from bytes k (n - k)) ≡ and_then (operation_at bytes k) (λ o. soundness (operations_from bytes (suc k) (n - suc k)))
one_step bytes k n h = rw (left_one k n h) (before_sound (operation_at bytes k) (operations_from bytes (suc k) (n - suc k)))

-- a judgement of as many operations as are asked for
abbrev pub Counts : ℕ → Judgement (List Operation) → Type 0
Counts n (refused_by f) = Unit
Counts n (sound os) = length os ≡ n

one-more : (n : ℕ) (j : Judgement Operation) (rest : Judgement (List Operation)) → Counts n rest → Counts (suc n) (and_then j (before rest))
one-more n (refused_by f) rest h = tt
one-more n (sound o) (refused_by f) h = tt
one-more n (sound o) (sound os) h = ap suc h

pub as_many : (bytes : List ℕ) (index n : ℕ) → Counts n (operations_from bytes index n)
as_many bytes index zero = refl
as_many bytes index (suc n) = one-more n (operation_at bytes index) (operations_from bytes (suc index) n) (as_many bytes (suc index) n)

summed : (h : Head) (j : Judgement (List Operation)) (section : Judgement Unit) → Counts h.operations j
    → summary (and_then j (λ os. and_then section (λ there. sound (trace_of h os))))
    ≡ and_then (and_then (soundness j) (λ all. section)) (λ u. sound h)
summed h (refused_by f) section e = refl
summed h (sound os) (refused_by f) e = refl
summed h (sound os) (sound there) e = ap (λ (n : ℕ). sound (record { divisor = h.divisor; model = h.model; operations = n })) e

head_first : (bytes : List ℕ) (j : Judgement Head)
    → summary (and_then j (after_head bytes)) ≡ and_then j (λ h. and_then (behind_head bytes h.operations) (λ u. sound h))
head_first bytes (refused_by f) = refl
head_first bytes (sound h) = summed h (operations_from bytes 0 h.operations) (section_three bytes h.operations) (as_many bytes 0 h.operations)

-- a trace is judged by its head, then by its operations, then by what follows them
pub in_turn : (bytes : List ℕ) → summary (read_trace bytes) ≡ and_then (read_head bytes) (λ h. and_then (behind_head bytes h.operations) (λ u. sound h))
unfolding read_trace
in_turn bytes = head_first bytes (read_head bytes)
