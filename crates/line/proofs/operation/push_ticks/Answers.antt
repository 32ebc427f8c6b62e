use native.Mathlib.Omega.{arith}
use lib.ListN.{length-append}
use Rattle.std.proofs.Common.{◌≤◌, length}
use Rattle.text.specs.Ascii.{ascii}
use Rattle.text.proofs.Decimal.{decimal-u32}
use Rattle.text.proofs.Rooms.{first, and_pushed, and_number}
use Rattle.line.specs.Line.{line_room}
use Rattle.line.specs.Lines.{ticks_text}
use Rattle.line.specs.Inner.{answer_room}
use Rattle.line.proofs.operation.push_ticks.Goals as goal

pub returns : goal.returns
returns c =
    let fits : length (ticks_text c.args.number.0 c.args.left.0) ≤ answer_room = simp length-append (omega (arith, decimal-u32 c.args.number.0 (omega arith), decimal-u32 c.args.left.0 (omega arith))) in
    let t1 = first {room = line_room} {before = c.args.line.now} (ascii "ticks ") c.push.new.self c.push.ensures in
    let t2 = and_number t1 c.args.number.0 c.from.result c.push_decimal.new.self c.from.ensures c.push_decimal.ensures in
    let t3 = and_pushed t2 (ascii " left ") c.push-2.new.self c.push-2.ensures in
    let t4 = and_number t3 c.args.left.0 c.from-2.result c.push_decimal-2.new.self c.from-2.ensures c.push_decimal-2.ensures in
    record { says = t4.so; fits = fits }
