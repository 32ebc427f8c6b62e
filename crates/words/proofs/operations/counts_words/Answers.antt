use native.Mathlib.Omega.{arith}
use lib.ListN.{length-append}
use Rattle.std.proofs.Common.{◌≤◌, length}
use Rattle.text.specs.Ascii.{ascii}
use Rattle.text.proofs.Decimal.{decimal-u8, decimal-u32}
use Rattle.text.proofs.Rooms.{first, and_pushed, and_number, said}
use Rattle.line.specs.Line.{line_room}
use Rattle.words.specs.Operations.{counts_words}
use Rattle.words.proofs.operations.counts_words.Goals as goal

pub returns : goal.returns
returns c =
    let fits : length (counts_words c.args.channel c.args.number) ≤ line_room = simp length-append (omega (arith, decimal-u8 c.args.channel (omega arith), decimal-u32 c.args.number (omega arith))) in
    let t1 = first {room = line_room} {before = c.new-line.result} (ascii "count channel ") c.push.new.self c.push.ensures in
    let t2 = and_number t1 c.args.channel c.from.result c.push_decimal.new.self c.from.ensures c.push_decimal.ensures in
    let t3 = and_pushed t2 (ascii ", ") c.push-2.new.self c.push-2.ensures in
    let t4 = and_number t3 c.args.number c.from-2.result c.push_decimal-2.new.self c.from-2.ensures c.push_decimal-2.ensures in
    let t5 = and_pushed t4 (ascii " times") c.push-3.new.self c.push-3.ensures in
    record { says = said t5 c.new-line.ensures fits; fits = fits }
