-- The event that the code has placed, or not, is that of the board's own channel.
use Rattle.std.proofs.lemmas.Result.{err_from_is_err_and}
use Rattle.ports.proofs.Settling.{settle-refused, settle-placed}
use Rattle.ports.proofs.settle.Goals as goal

pub returns-in_err-at : goal.returns-in_err-at
returns-in_err-at c b has =
    let p = err_from_is_err_and c.from_residual.result c.from_residual.ensures.1 in
    rw (p.1, p.2)
    (settle-refused b c.args.n c.args.c.now c.args.new has _ c.level_event-event.ensures c.args.events.now c.args.place c.in_err-at.field-0.0 c.place_event.new.events c.in_err-at.ensures)

pub returns : goal.returns
returns c b has =
    settle-placed b c.args.n c.args.c.now c.args.new has _ c.level_event-event.ensures c.args.events.now c.args.place c.in_ok-at.at c.place_event.new.events c.in_ok-at.ensures
