use mathlib.Core.Path.{sym, ap, ◌∙◌}
use Rattle.std.proofs.lemmas.Result.{err_from_is_err_and}
use Rattle.trace.specs.Judgement.{Judgement, and_then}
use Rattle.trace.specs.Trace.{Trace}
use Rattle.trace.specs.Answer.{fault_of}
use Rattle.trace.proofs.Sound.{judged-sound, judged-refused}
use Rattle.checkpoint.specs.Boards.{size}
use Rattle.checkpoint.specs.From.{start_at, start_checked}
use Rattle.checkpoint.proofs.Found.{found-length}
use Rattle.checkpoint.proofs.Whole.{trace-found}
use Rattle.checkpoint.proofs.starting.start_of.Goals as goal

pub start_in-requires : goal.start_in-requires
start_in-requires c = (judged-sound _ c.in_ok-head.head (sym c.in_ok-head.ensures)).section-sound

pub returns-in_err-head : goal.returns-in_err-head
returns-in_err-head c =
    let a = c.args in
    let p = err_from_is_err_and c.from_residual.result c.from_residual.ensures.1 in
    let is = judged-refused a.trace.now (fault_of c.in_err-head.field-0.0) (sym c.in_err-head.ensures) in
    rw (p.1, p.2) (ap (λ (j : Judgement Trace). start_checked (and_then j (λ t. start_at a.trace.now (size t) a.k))) (sym is))

pub returns : goal.returns
returns c =
    let a = c.args in
    let head = c.in_ok-head.head in
    let is = trace-found a.trace.now head (judged-sound a.trace.now head (sym c.in_ok-head.ensures)) in
    c.start_in.ensures
    ∙ ap (λ n. start_checked (start_at a.trace.now n a.k)) (sym (found-length a.trace.now 0 head.operations))
    ∙ ap (λ (j : Judgement Trace). start_checked (and_then j (λ t. start_at a.trace.now (size t) a.k))) (sym is)
