-- What the full check comes to is known by its number of checkpoints or its fault, and so is whether a replay can begin. Assumes nothing.
use Prim.Native.Nat.{ℕ}
use mathlib.Core.Path.{◌≡◌}
use Rattle.std.specs.Prelude.{Result}
use Rattle.trace.specs.declared.Fault.{Fault}
use Rattle.trace.specs.Answer.{judged}
use Rattle.trace.proofs.Apart.{answer-apart}

pub checked-apart : (c d : Result ℕ Fault) → judged c ≡ judged d → c ≡ d
checked-apart = answer-apart

pub start-apart : (s t : Result Unit Fault) → judged s ≡ judged t → s ≡ t
start-apart = answer-apart
