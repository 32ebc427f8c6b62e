use native.Mathlib.Omega.{arith}
use lib.ListN.{length-append}
use Rattle.std.proofs.Common.{◌≤◌, length}
use Rattle.text.specs.Ascii.{ascii}
use Rattle.text.proofs.Decimal.{decimal-u8}
use Rattle.text.proofs.Rooms.{first, and_pushed, and_number}
use Rattle.line.specs.Line.{line_room}
use Rattle.words.specs.Inner.{asked_room}
use Rattle.words.specs.Commands.{latch_words}
use Rattle.words.proofs.operations.push_latch.Goals as goal

pub returns : goal.returns
returns c =
    let fits : length (latch_words c.args.channel) ≤ asked_room = simp length-append (omega (arith, decimal-u8 c.args.channel (omega arith))) in
    let t1 = first {room = line_room} {before = c.args.line.now} (ascii " ; channel ") c.push.new.self c.push.ensures in
    let t2 = and_number t1 c.args.channel c.from.result c.push_decimal.new.self c.from.ensures c.push_decimal.ensures in
    let t3 = and_pushed t2 (ascii ", latch the count") c.push-2.new.self c.push-2.ensures in
    record { says = t3.so; fits = fits }
