-- A trace that is judged sound is the one that is found behind its head. Assumes nothing.
use Prim.Native.Nat.{ℕ}
use mathlib.Core.List.{List}
use mathlib.Core.Path.{◌≡◌, sym, ap, ◌∙◌}
use Rattle.trace.specs.declared.head.Head.{Head}
use Rattle.trace.specs.declared.operation.Operation.{Operation}
use Rattle.trace.specs.Judgement.{sound}
use Rattle.trace.specs.Trace.{trace_of, read_trace}
use Rattle.trace.proofs.Sound.{SoundAs}
use Rattle.runner.proofs.Loop.{found-are}
use Rattle.checkpoint.specs.Inner.{trace_found}

pub trace-found : (bytes : List ℕ) (h : Head) → SoundAs bytes h → read_trace bytes ≡ sound (trace_found bytes h)
trace-found bytes h whole = whole.whole ∙ ap (λ (os : List Operation). sound (trace_of h os)) (sym (found-are bytes 0 h.operations whole.all_sound))
