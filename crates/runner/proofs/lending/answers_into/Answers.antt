use Rattle.std.proofs.Common.{◌≡◌, refl, sym, ap, ◌∙◌, arith}
use Rattle.board.specs.Outcome.{Outcome}
use Rattle.board.specs.Making.{fresh}
use Rattle.text.proofs.Puts.{wrote}
use Rattle.trace.specs.Trace.{trace_of}
use Rattle.trace.specs.Answer.{fault_of}
use Rattle.trace.proofs.Sound.{judged-sound, judged-refused}
use Rattle.runner.specs.declared.Form.TheVariants.{Answers}
use Rattle.runner.specs.Printed.{told_from}
use Rattle.runner.specs.Lent.{answers_of, answers_into}
use Rattle.runner.specs.Inner.{to_tell}
use Rattle.runner.proofs.Whole.{new-board, told-sound, prints}
use Rattle.runner.proofs.Lent.{no-room, in-room, operations-are}
use Rattle.runner.proofs.lending.answers_into.Goals as goal

pub returns-then-out-head : goal.returns-then-out-head
unfolding answers_into
returns-then-out-head c =
    let a = c.args in
    let head = c.in-Ok.head in
    let whole = judged-sound a.trace.now head (sym c.in-Ok.ensures) in
    rw whole.whole
    (rw (operations-are a.trace.now head whole)
    (no-room _ (answers_of (trace_of head (to_tell a.trace.now 0 head.operations))) a.out.now c.if-out-head.true))

pub returns-in-Err : goal.returns-in-Err
unfolding answers_into
returns-in-Err c = rw (judged-refused _ (fault_of c.in-Err.fault) (sym c.in-Err.ensures)) refl

pub returns-else-out-head : goal.returns-else-out-head
unfolding answers_into
returns-else-out-head c =
    let a = c.args in
    let head = c.in-Ok.head in
    let whole = judged-sound a.trace.now head (sym c.in-Ok.ensures) in
    let room = c.if-out-head.false in
    let made = c.new.result.board in
    let board : made ≡ fresh head.model head.divisor = ap (λ (o : Outcome). o.board) c.new.ensures ∙ new-board head.model head.divisor in
    let text = told_from Answers made 0 (to_tell a.trace.now 0 head.operations) in
    let said =
    told-sound Answers a.trace.now head.operations whole.all_sound made 0 a.out.now c.tell-told.result c.tell-told.new.out c.tell-told.ensures
    (omega (arith, room)) in
    let all = prints (wrote text a.out.now 0 _ _ said.told) (omega (arith, said.short, room)) in
    rw whole.whole (rw (operations-are a.trace.now head whole) (rw (← board) (in-room _ text a.out.now _ _ room all)))
