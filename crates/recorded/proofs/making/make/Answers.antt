use Rattle.std.proofs.Common.{sym, ap, ◌∙◌}
use Rattle.recorded.specs.Inner.{turned_in_six}
use Rattle.recorded.proofs.Recorded.{turn-made}
use Rattle.recorded.proofs.making.make.Goals as goal

pub returns-in-Ok : goal.returns-in-Ok
returns-in-Ok c =
    let a = c.args in
    c.done.ensures ∙ ap (turned_in_six a.b.now) c.in-Ok.ensures.0 ∙ sym (turn-made a.b.now a.operation)

pub returns-in-Err : goal.returns-in-Err
returns-in-Err c = let a = c.args in ap (turned_in_six a.b.now) c.in-Err.ensures.0 ∙ sym (turn-made a.b.now a.operation)
