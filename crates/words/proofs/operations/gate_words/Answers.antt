use native.Mathlib.Omega.{arith}
use lib.ListN.{length-append}
use Rattle.std.proofs.Common.{◌≤◌, length}
use Rattle.text.specs.Ascii.{ascii}
use Rattle.text.proofs.Decimal.{decimal-u8}
use Rattle.text.proofs.Rooms.{first, and_pushed, and_number, said}
use Rattle.line.specs.Line.{line_room}
use Rattle.words.specs.Operations.{level_words, gate_words}
use Rattle.words.proofs.operations.gate_words.Goals as goal

pub returns : goal.returns
returns c =
    let fits : length (gate_words c.args.channel c.args.level) ≤ line_room = simp length-append (omega (arith, decimal-u8 c.args.channel (omega arith), c.push_level.ensures.fits)) in
    let t1 = first {room = line_room} {before = c.new-line.result} (ascii "set gate of channel ") c.push.new.self c.push.ensures in
    let t2 = and_number t1 c.args.channel c.from.result c.push_decimal.new.self c.from.ensures c.push_decimal.ensures in
    let t3 = and_pushed t2 (level_words c.args.level) c.push_level.new.line c.push_level.ensures.says in
    record { says = said t3 c.new-line.ensures fits; fits = fits }
