-- One operation more: what is made of the board, and what is said of it.
use Rattle.std.proofs.Common.{sym, ap, ◌∙◌}
use Rattle.recorded.specs.Made.{make}
use Rattle.runner.proofs.Turns.{goes-on}
use Rattle.runner.proofs.tell.Goals as goal

pub loop-index-preserved : goal.loop-index-preserved
loop-index-preserved c =
    let a = c.args in
    let l = c.loop-index in
    goes-on a.form a.trace.now a.first a.last a.start a.place a.out.now l.index l.board l.at l.out l.invariant c.loop-index-test.true _
    (ap (make l.board) (sym c.operation_in.ensures) ∙ sym c.make-made.ensures) _ _ c.say-at.ensures
