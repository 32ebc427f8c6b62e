use native.Mathlib.Omega.{arith}
use lib.ListN.{length-append}
use borrow.Author.Tests.{le-ltb}
use Rattle.std.proofs.Common.{◌≤◌, ◌++◌, ◌-◌, length}
use Rattle.text.specs.Ascii.{ascii}
use Rattle.text.specs.Number.{decimal}
use Rattle.text.proofs.Decimal.{decimal-u8}
use Rattle.text.proofs.Rooms.{first, and_pushed, and_number}
use Rattle.line.specs.Line.{line_room}
use Rattle.words.specs.Inner.{asked_room}
use Rattle.words.proofs.operations.push_data_port.Goals as goal

pub returns-in-64-to-66 : goal.returns-in-64-to-66
returns-in-64-to-66 c =
    let a = c.args in
    let n = a.port - 0x40 in
    let fits : length (ascii " ; channel " ++ decimal n ++ a.behind.now) ≤ asked_room = simp length-append (omega (arith, c.requires, decimal-u8 n (omega arith))) in
    let t1 = first {room = line_room} {before = a.line.now} (ascii " ; channel ") c.push.new.self c.push.ensures in
    let t2 = and_number t1 n c.from.result c.push_decimal.new.self c.from.ensures c.push_decimal.ensures in
    let t3 = and_pushed t2 a.behind.now c.push-in-64-to-66.new.self c.push-in-64-to-66.ensures in
    rw (le-ltb a.port 0x40 (omega arith), le-ltb 0x42 a.port (omega arith)) (record { says = t3.so; fits = fits })
