use Rattle.std.proofs.Common.{◌≡◌, ◌∙◌}
use Rattle.owed.specs.Told.{smaller}
use Rattle.owed.proofs.Skips.{min-smaller}
use Rattle.owed.proofs.AllQuiet.{not-all, all}
use Rattle.owed.proofs.quiet_run.Goals as goal

pub returns-then-run-min : goal.returns-then-run-min
returns-then-run-min c =
    let a = c.args in
    let least : c.min.result ≡ smaller a.stated a.owed.0 = c.min.ensures ∙ min-smaller a.stated a.owed.0 in
    not-all a.c0 a.c1 a.c2 a.owed.0 a.stated c.if-stated-gt65536.false c.alike-run.result c.alike-run.ensures (rw least at c.if-run-min.true)

pub returns : goal.returns
returns c =
    let a = c.args in
    let least : c.min.result ≡ smaller a.stated a.owed.0 = c.min.ensures ∙ min-smaller a.stated a.owed.0 in
    all a.c0 a.c1 a.c2 a.owed.0 a.stated c.if-stated-gt65536.false c.alike-run.result c.alike-run.ensures (rw least at c.if-run-min.false)
