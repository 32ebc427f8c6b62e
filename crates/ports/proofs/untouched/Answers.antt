use Rattle.std.proofs.Common.{ap}
use Rattle.std.proofs.lemmas.Result.{err_from_is_err_and}
use Rattle.ports.specs.Settle.{placed_on, untouched}
use Rattle.ports.proofs.untouched.Goals as goal

pub returns-in_err-place : goal.returns-in_err-place
unfolding untouched
returns-in_err-place c b =
    let p = err_from_is_err_and c.from_residual.result c.from_residual.ensures.1 in
    rw (p.1, p.2) (ap (placed_on b b) c.in_err-place.ensures)

pub returns : goal.returns
unfolding untouched
returns c b = ap (placed_on b b) c.in_ok-place.ensures
