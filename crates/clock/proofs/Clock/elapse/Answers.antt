use Rattle.std.proofs.Common.{◌≡◌, ◌||◌, refl}
use Rattle.std.proofs.lemmas.Result.{err_from_is_err_and}
use Rattle.clock.proofs.Fields.{no-divisor, ticks-owed, refuses, yields}
use Rattle.clock.proofs.Clock.elapse.Goals.{then-defers, else-defers}
use Rattle.clock.proofs.Clock.elapse.Goals as goal

pub returns-then-self-eq0 : goal.returns-then-self-eq0
returns-then-self-eq0 c b has = no-divisor b has _ _ _ c.if-self-eq0.true

pub returns-then-self-ne0 : goal.returns-then-self-ne0
returns-then-self-ne0 c b has = ticks-owed b has _ _ _ c.if-self-eq0.false c.if-self-ne0.true

pub returns-in_err-made : goal.returns-in_err-made
returns-in_err-made c b has =
    let p = err_from_is_err_and c.from_residual.result c.from_residual.ensures.1 in
    rw (p.1, p.2) (refuses b has _ _ _ c.if-self-eq0.false c.if-self-ne0.false c.in_err-made.field-0.0 c.in_err-made.ensures)

pub returns : goal.returns
returns c b has =
    let is : c.if-defers.self ≡ (c.args.defers || c.args.self.now.defer) = elim c.if-defers.branch [
      | then-defers w ↦ rw (w.self-is, w.if-defers.true) refl
      | else-defers w ↦ rw (w.self-is, w.if-defers.false) refl
    ] in
    rw is (yields b has c.args.given.0 c.args.next c.args.defers c.if-self-eq0.false c.if-self-ne0.false c.in_ok-made.made c.in_ok-made.ensures)
