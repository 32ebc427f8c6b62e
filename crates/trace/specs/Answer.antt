-- Document 01's number and place for each answer of the code, and what an answer says of a trace: the code holds no list of operations, it says how many
-- there are and gives each by its index.
use Rattle.std.specs.Prelude.{length, Result, Ok, Err}
use Rattle.refusal.specs.Refusal.{refusal_number}
use Rattle.trace.specs.declared.Fault.{Fault}
use Rattle.trace.specs.declared.head.Head.{Head}
use Rattle.trace.specs.Judgement.{Judgement, Faulted, refused_by, sound, and_then}
use Rattle.trace.specs.Trace.{Trace}

-- "its number", "P" and "operation I" of a fault
abbrev pub fault_of : Fault → Faulted
fault_of f = record { number = refusal_number f.refusal; place = f.place; operation = f.operation }

-- what `read_head`, `judge` and `operation_at` answer
abbrev pub judged : {A : Type 0} → Result A Fault → Judgement A
judged (Ok value) = sound value
judged (Err f) = refused_by (fault_of f)

-- what is said of a sound trace: divisor, model, and how many operations it has
abbrev pub head_in : Trace → Head
head_in t = record { divisor = t.divisor; model = t.model; operations = length t.operations }

-- .. or the fault
abbrev pub summary : Judgement Trace → Judgement Head
summary j = and_then j (λ t. sound (head_in t))
