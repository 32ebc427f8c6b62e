use native.Mathlib.Omega.{arith}
use Rattle.std.proofs.Common.{◌≤◌, length}
use Rattle.text.specs.Ascii.{ascii}
use Rattle.text.proofs.Decimal.{decimal-u8}
use Rattle.text.proofs.Rooms.{first, and_number}
use Rattle.line.specs.Line.{line_room}
use Rattle.line.specs.Lines.{refused_text}
use Rattle.line.specs.Inner.{answer_room}
use Rattle.line.proofs.operation.push_refused.Goals as goal

pub returns : goal.returns
returns c =
    let fits : length (refused_text c.args.number) ≤ answer_room = omega (arith, decimal-u8 c.args.number (omega arith)) in
    let t1 = first {room = line_room} {before = c.args.line.now} (ascii "refused ") c.push.new.self c.push.ensures in
    let t2 = and_number t1 c.args.number c.from.result c.push_decimal.new.self c.from.ensures c.push_decimal.ensures in
    record { says = t2.so; fits = fits }
