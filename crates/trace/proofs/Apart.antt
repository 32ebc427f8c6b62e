-- An answer of the code is known by what it says: a sound value, or document 01's number and place, with the operation that is named. Assumes nothing.
use mathlib.Core.Path.{◌≡◌, refl, ap}
use Rattle.std.specs.Prelude.{Result, Ok, Err}
use Rattle.refusal.proofs.Apart.{apart_by}
use Rattle.refusal.proofs.Numbered.{refusal_numbered, numbered-back}
use Rattle.trace.specs.declared.Fault.{Fault}
use Rattle.trace.specs.declared.head.Head.{Head}
use Rattle.trace.specs.declared.operation.Operation.{Operation}
use Rattle.trace.specs.Judgement.{Judgement, Faulted, refused_by, sound}
use Rattle.trace.specs.Answer.{fault_of, judged}

abbrev pub fault_from : Faulted → Fault
fault_from f = record { refusal = refusal_numbered f.number; place = f.place; operation = f.operation }

pub fault-back : (f : Fault) → fault_from (fault_of f) ≡ f
fault-back f = λ i. record { refusal = numbered-back f.refusal i; place = f.place; operation = f.operation }

abbrev judged_of : {A : Type 0} → Judgement A → Result A Fault
judged_of (refused_by f) = Err (fault_from f)
judged_of (sound value) = Ok value

judged-back : {A : Type 0} (r : Result A Fault) → judged_of (judged r) ≡ r
judged-back (Err f) = ap Err (fault-back f)
judged-back (Ok value) = refl

-- what every answer of `read_head`, `judge` and `operation_at` is known by
pub answer-apart : {A : Type 0} (r s : Result A Fault) → judged r ≡ judged s → r ≡ s
answer-apart = apart_by judged judged_of judged-back

pub judged-apart : (r s : Result Head Fault) → judged r ≡ judged s → r ≡ s
judged-apart = answer-apart

pub operation-judged-apart : (r s : Result Operation Fault) → judged r ≡ judged s → r ≡ s
operation-judged-apart = answer-apart
