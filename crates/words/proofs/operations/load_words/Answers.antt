use native.Mathlib.Omega.{arith}
use lib.ListN.{length-append}
use Rattle.std.proofs.Common.{◌≤◌, length}
use Rattle.text.specs.Ascii.{ascii}
use Rattle.text.proofs.Decimal.{decimal-u8}
use Rattle.text.proofs.Rooms.{first, and_number, said}
use Rattle.line.specs.Line.{line_room}
use Rattle.words.specs.Operations.{load_words}
use Rattle.words.proofs.operations.load_words.Goals as goal

pub returns : goal.returns
returns c =
    let fits : length (load_words c.args.channel) ≤ line_room = simp length-append (omega (arith, decimal-u8 c.args.channel (omega arith))) in
    let t1 = first {room = line_room} {before = c.new-line.result} (ascii "load cycle of channel ") c.push.new.self c.push.ensures in
    let t2 = and_number t1 c.args.channel c.from.result c.push_decimal.new.self c.from.ensures c.push_decimal.ensures in
    record { says = said t2 c.new-line.ensures fits; fits = fits }
