use native.Mathlib.Omega.{arith}
use lib.ListN.{length-append}
use Rattle.std.proofs.Common.{◌≤◌, ◌++◌, length}
use Rattle.text.specs.Number.{decimal}
use Rattle.text.proofs.Decimal.{decimal-u32}
use Rattle.text.proofs.Rooms.{first, and_pushed, and_number, said}
use Rattle.line.specs.Line.{line_room}
use Rattle.words.proofs.said_number.Goals as goal

pub returns : goal.returns
returns c =
    let fits : length (c.args.front.now ++ decimal c.args.number ++ c.args.behind.now) ≤ line_room = simp length-append (omega (arith, c.requires, decimal-u32 c.args.number (omega arith))) in
    let t1 = first {room = line_room} {before = c.new-line.result} (c.args.front.now) c.push.new.self c.push.ensures in
    let t2 = and_number t1 c.args.number c.from.result c.push_decimal.new.self c.from.ensures c.push_decimal.ensures in
    let t3 = and_pushed t2 (c.args.behind.now) c.push-2.new.self c.push-2.ensures in
    record { says = said t3 c.new-line.ensures fits; fits = fits }
