use Rattle.std.proofs.Common.{◌≡◌, arith}
use Rattle.quiet.proofs.Fields.{twice, thrice}
use Rattle.quiet.proofs.steps_each.Goals as goal

pub returns-then-each-eq2 : goal.returns-then-each-eq2
returns-then-each-eq2 c = simp (c.if-each-eq2.true, twice, c.steps_in-twice.ensures, c.steps_in-once.ensures)

pub returns : goal.returns
returns c =
    let e : c.args.each ≡ 3 = omega arith in
    simp (e, thrice, c.steps_in.ensures, c.steps_in-twice.ensures, c.steps_in-once.ensures)
