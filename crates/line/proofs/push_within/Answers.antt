use native.Mathlib.Omega.{arith}
use lib.ListN.{length-append}
use Rattle.std.proofs.Common.{◌≤◌, ◌++◌, length}
use Rattle.text.specs.Ascii.{ascii}
use Rattle.text.specs.Number.{decimal}
use Rattle.text.proofs.Decimal.{decimal-u32}
use Rattle.text.proofs.Rooms.{first, and_number}
use Rattle.line.specs.Line.{line_room}
use Rattle.line.specs.Inner.{within_room}
use mir.Syntax.{w32}
use mir.Val.{Fits}
use borrow.Author.Rules.{rules}
use Rattle.line.proofs.push_within.Goals as goal

pub returns-in-Some : goal.returns-in-Some
returns-in-Some c =
    let fits32 : Fits w32 c.in-Some.index = search rules in
    let fits : length (ascii " operation " ++ decimal c.in-Some.index) ≤ within_room = simp length-append (omega (arith, decimal-u32 c.in-Some.index fits32.fits)) in
    let t1 = first {room = line_room} {before = c.args.line.now} (ascii " operation ") c.push-in-Some.new.self c.push-in-Some.ensures in
    let t2 = and_number t1 c.in-Some.index c.from.result c.push_decimal.new.self c.from.ensures c.push_decimal.ensures in
    rw c.in-Some.is (record { says = t2.so; fits = fits })
