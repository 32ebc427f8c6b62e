use native.Mathlib.Omega.{arith}
use lib.ListN.{length-append}
use Rattle.std.proofs.Common.{◌≤◌, length}
use Rattle.text.specs.Ascii.{ascii}
use Rattle.text.specs.Number.{hex}
use Rattle.text.proofs.Rooms.{first, and_pushed, said}
use Rattle.line.specs.Line.{line_room}
use Rattle.words.specs.Operations.{written_words, write_words}
use Rattle.words.proofs.operations.write_words.Goals as goal

pub returns : goal.returns
returns c =
    let fits : length (write_words c.args.model c.args.port c.args.byte) ≤ line_room = simp length-append (omega (arith, c.push_written.ensures.fits)) in
    let t1 = first {room = line_room} {before = c.new-line.result} (ascii "write ") c.push.new.self c.push.ensures in
    let t2 = and_pushed t1 (hex c.args.port) c.push_hex.new.self c.push_hex.ensures in
    let t3 = and_pushed t2 (ascii " ") c.push-2.new.self c.push-2.ensures in
    let t4 = and_pushed t3 (hex c.args.byte) c.push_hex-2.new.self c.push_hex-2.ensures in
    let t5 = and_pushed t4 (written_words c.args.model c.args.port c.args.byte) c.push_written.new.line c.push_written.ensures.says in
    record { says = said t5 c.new-line.ensures fits; fits = fits }
