use native.Mathlib.Omega.{arith}
use lib.ListN.{length-append}
use Rattle.std.proofs.Common.{◌≤◌, ◌++◌, length}
use Rattle.text.specs.Ascii.{ascii}
use Rattle.text.specs.Number.{decimal}
use Rattle.text.proofs.Decimal.{decimal-u32}
use Rattle.text.proofs.Rooms.{first_number, and_pushed, said}
use Rattle.line.specs.Line.{line_room}
use Rattle.line.specs.Lines.{newline, answer_text, operation_line}
use Rattle.board.specs.Answer.{reply_of}
use Rattle.line.proofs.operation.operation_line.Goals as goal

pub returns : goal.returns
unfolding operation_line
returns c =
    let text = answer_text (reply_of c.args.answer) c.args.events c.args.left.0 in
    let fits : length (decimal c.args.index ++ ascii " " ++ text ++ newline) ≤ line_room = simp length-append (omega (arith, decimal-u32 c.args.index (omega arith), c.push_answer.ensures.fits)) in
    let t1 = first_number {room = line_room} {before = c.new-line.result} c.args.index c.from.result c.push_decimal.new.self c.from.ensures c.push_decimal.ensures in
    let t2 = and_pushed t1 (ascii " ") c.push.new.self c.push.ensures in
    let t3 = and_pushed t2 (text) c.push_answer.new.line c.push_answer.ensures.says in
    let t4 = and_pushed t3 (newline) c.push-2.new.self c.push-2.ensures in
    record { says = said t4 c.new-line.ensures fits; fits = fits }
