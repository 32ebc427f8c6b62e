use native.Mathlib.Omega.{arith}
use lib.ListN.{length-append}
use Rattle.std.proofs.Common.{◌≤◌, length, []}
use Rattle.text.specs.Ascii.{ascii}
use Rattle.text.specs.Number.{hex}
use Rattle.text.proofs.Rooms.{first, and_pushed, said}
use Rattle.line.specs.Line.{line_room}
use Rattle.words.specs.Operations.{data_port_words, read_words}
use Rattle.words.proofs.operations.read_words.Goals as goal

pub returns : goal.returns
returns c =
    let fits : length (read_words c.args.port) ≤ line_room = simp length-append (omega (arith, c.push_data_port.ensures.fits)) in
    let t1 = first {room = line_room} {before = c.new-line.result} (ascii "read ") c.push.new.self c.push.ensures in
    let t2 = and_pushed t1 (hex c.args.port) c.push_hex.new.self c.push_hex.ensures in
    let t3 = and_pushed t2 (data_port_words c.args.port []) c.push_data_port.new.line c.push_data_port.ensures.says in
    record { says = said t3 c.new-line.ensures fits; fits = fits }
