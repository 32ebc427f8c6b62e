use Rattle.quiet.proofs.Fields.{counted_then_aged}
use Rattle.quiet.proofs.count_on.Goals as goal

pub returns : goal.returns
returns c =
    simp (c.age.ensures, c.ticked_by-c.ensures, c.followed_by.ensures, c.steps_each-element.ensures, c.takes.ensures)
    (counted_then_aged c.args.ticks c.args.c.now)
