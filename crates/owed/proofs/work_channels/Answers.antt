use Rattle.std.proofs.Common.{◌∙◌, sym}
use borrow.Author.Tests.{lt-ltb, le-ltb}
use Rattle.owed.specs.Worked.{work_off}
use Rattle.owed.proofs.Working.{accepted-is, put_back}
use Rattle.owed.proofs.work_channels.Goals as goal

pub returns-then-events-place : goal.returns-then-events-place
unfolding work_off
returns-then-events-place c b has = simp (put_back has, lt-ltb _ _ c.if-events-place.true)

pub returns-then-stated-gt65536 : goal.returns-then-stated-gt65536
unfolding work_off
returns-then-stated-gt65536 c b has = simp (put_back has, lt-ltb _ _ c.if-stated-gt65536.true, le-ltb _ _ c.if-events-place.false)

pub returns : goal.returns
returns c b has =
    c.work_up_to-worked.ensures b has ∙ sym (accepted-is b c.args.stated c.args.events.now c.args.place c.if-events-place.false c.if-stated-gt65536.false)
