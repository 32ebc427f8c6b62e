-- Not for readers: what the contracts of private functions and the proofs speak of. No public contract and no theorem's statement needs it.
use Rattle.std.specs.Prelude.{ℕ, List, []}
use Rattle.trace.specs.declared.operation.Operation.{Operation}
use Rattle.trace.specs.Judgement.{Judgement, refused_by, sound, and_then}
use Rattle.trace.specs.Section.{section_three}
use Rattle.trace.specs.Trace.{operations_from}

-- whether there is a fault, and which
abbrev pub soundness : {A : Type 0} → Judgement A → Judgement Unit
soundness j = and_then j (λ value. sound tt)

-- the operations of a sound judgement; of a fault there are none
abbrev pub operations_of : Judgement (List Operation) → List Operation
operations_of (refused_by f) = []
operations_of (sound os) = os

-- whether there is a fault behind the head
abbrev pub behind_head : List ℕ → ℕ → Judgement Unit
behind_head bytes operations = and_then (soundness (operations_from bytes 0 operations)) (λ all. section_three bytes operations)
