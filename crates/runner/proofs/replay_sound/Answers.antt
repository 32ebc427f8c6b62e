-- The three puts, one behind the other.
use Rattle.std.proofs.Common.{◌≡◌, ap, ◌∙◌, arith, length-append}
use Rattle.board.specs.Outcome.{Outcome}
use Rattle.board.specs.Making.{fresh}
use Rattle.line.specs.Lines.{head_line, end_line}
use Rattle.text.proofs.Puts.{wrote, and_then, wrote-place, put-length}
use Rattle.runner.specs.declared.Form.TheVariants.{Lines}
use Rattle.runner.specs.Printed.{told_from}
use Rattle.runner.specs.Inner.{to_tell}
use Rattle.runner.proofs.Loop.{as-many-as}
use Rattle.runner.proofs.Whole.{new-board, told-sound, prints}
use Rattle.runner.proofs.replay_sound.Goals as goal

pub returns : goal.returns
returns c =
    let a = c.args in
    let out = a.out.now in
    let line = head_line a.head.model a.head.divisor in
    let head = c.put_sentence-place.ensures in
    let same = put-length line out 0 _ _ head.told in
    let one = wrote line out 0 _ _ head.told in
    let place = wrote-place one (omega (arith, c.requires.operations_in_bounds, head.short)) in
    let made = c.new.result.board in
    let operations = to_tell a.trace.now 0 a.head.operations in
    -- the lines have room behind the head
    let lines =
    told-sound Lines a.trace.now a.head.operations c.requires.operations_value made c.put_sentence-place.result c.put_sentence-place.new.out c.tell-told.result
    c.tell-told.new.out c.tell-told.ensures (omega (arith, c.requires.operations_in_bounds, same, place, head.short)) in
    let last = c.put_sentence.ensures in
    let board : made ≡ fresh a.head.model a.head.divisor =
    ap (λ (o : Outcome). o.board) c.new.ensures ∙ new-board a.head.model a.head.divisor in
    let many = as-many-as a.trace.now 0 a.head.operations c.requires.operations_value in
    let two = and_then one (told_from Lines made 0 operations) _ _ lines.told in
    let three = and_then two (end_line a.head.operations) _ _ last.told in
    rw (← board) (rw many (prints three (simp length-append (omega (arith, c.requires.operations_in_bounds, head.short, lines.short, last.short)))))
