-- Document 01, "Recorded traces", and document 02, L7: a whole trace out of its bytes.
use Rattle.std.specs.Prelude.{ℕ, zero, suc, List, [], ◌∷◌}
use Rattle.channel.specs.declared.PitType.{PitType}
use Rattle.trace.specs.declared.head.Head.{Head}
use Rattle.trace.specs.declared.operation.Operation.{Operation}
use Rattle.trace.specs.Judgement.{Judgement, sound, and_then}
use Rattle.trace.specs.Head.{read_head}
use Rattle.trace.specs.Operation.{operation_at}
use Rattle.trace.specs.Section.{section_three}

-- "divisor and model", and the "operations"
pub record Trace : Type 0 where
  pub divisor : ℕ
  pub model : PitType
  pub operations : List Operation

-- an operation before those that follow it
abbrev pub before : Judgement (List Operation) → Operation → Judgement (List Operation)
before rest o = and_then rest (λ os. sound (o ∷ os))

-- as many operations as are left, from an index on
abbrev pub operations_from : List ℕ → ℕ → ℕ → Judgement (List Operation)
operations_from bytes index zero = sound []
operations_from bytes index (suc left) = and_then (operation_at bytes index) (before (operations_from bytes (suc index) left))

-- what the head says, with the operations that were read
abbrev pub trace_of : Head → List Operation → Trace
trace_of head operations = record { divisor = head.divisor; model = head.model; operations = operations }

-- the operations that the head counts, and the form of what follows them. The checkpoints add nothing to what a trace says: they follow from it
abbrev pub after_head : List ℕ → Head → Judgement Trace
after_head bytes head =
    and_then (operations_from bytes 0 head.operations)
    (λ operations. and_then (section_three bytes head.operations) (λ there. sound (trace_of head operations)))

-- "Fields are checked from the front"
unfoldable pub read_trace : List ℕ → Judgement Trace
read_trace bytes = and_then (read_head bytes) (after_head bytes)
