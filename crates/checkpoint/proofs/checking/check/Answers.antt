use mathlib.Core.Path.{◌≡◌, refl, sym, ap, ◌∙◌}
use Rattle.std.proofs.lemmas.Result.{err_from_is_err_and}
use Rattle.trace.specs.Answer.{fault_of}
use Rattle.trace.proofs.Sound.{judged-sound, judged-refused}
use Rattle.checkpoint.specs.Boards.{size, checkpoints_in}
use Rattle.checkpoint.specs.Check.{check, check_first}
use Rattle.checkpoint.specs.Inner.{trace_found}
use Rattle.checkpoint.proofs.Found.{found-length}
use Rattle.checkpoint.proofs.Sections.{standing}
use Rattle.checkpoint.proofs.Whole.{trace-found}
use Rattle.checkpoint.proofs.checking.check.Goals as goal

pub compare-requires : goal.compare-requires
compare-requires c =
    let sure = judged-sound c.args.trace.now c.in_ok-head.head (sym c.in_ok-head.ensures) in
    rw c.checkpoints_in.ensures (standing c.args.trace.now c.in_ok-head.head.operations sure.section-sound)

pub returns-in_err-head : goal.returns-in_err-head
unfolding check
returns-in_err-head c =
    let p = err_from_is_err_and c.from_residual.result c.from_residual.ensures.1 in
    rw (p.1, p.2) (rw (judged-refused _ (fault_of c.in_err-head.field-0.0) (sym c.in_err-head.ensures)) refl)

pub returns : goal.returns
unfolding check
returns c =
    let trace = c.args.trace.now in
    let head = c.in_ok-head.head in
    let sure = judged-sound trace head (sym c.in_ok-head.ensures) in
    let many : size (trace_found trace head) ≡ head.operations = found-length trace 0 head.operations in
    rw (trace-found trace head sure)
    (c.compare.ensures ∙ ap (check_first trace (trace_found trace head)) (c.checkpoints_in.ensures ∙ ap (checkpoints_in trace) (sym many)))
