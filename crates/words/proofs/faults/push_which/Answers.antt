use native.Mathlib.Omega.{arith}
use lib.ListN.{length-append}
use Rattle.std.proofs.Common.{◌≤◌, ◌++◌, length}
use Rattle.text.specs.Ascii.{ascii}
use Rattle.text.specs.Number.{decimal}
use Rattle.text.proofs.Decimal.{decimal-u32}
use Rattle.text.proofs.Rooms.{first, and_pushed, and_number}
use Rattle.line.specs.Line.{line_room}
use mir.Syntax.{w32}
use mir.Val.{Fits}
use borrow.Author.Rules.{rules}
use Rattle.words.specs.Inner.{which_room}
use Rattle.words.proofs.faults.push_which.Goals as goal

pub returns-in-Some : goal.returns-in-Some
returns-in-Some c =
    let fits32 : Fits w32 c.in-Some.index = search rules in
    let fits : length (ascii "operation " ++ decimal c.in-Some.index ++ ascii ", ") ≤ which_room = simp length-append (omega (arith, decimal-u32 c.in-Some.index fits32.fits)) in
    let t1 = first {room = line_room} {before = c.args.line.now} (ascii "operation ") c.push-in-Some.new.self c.push-in-Some.ensures in
    let t2 = and_number t1 c.in-Some.index c.from.result c.push_decimal.new.self c.from.ensures c.push_decimal.ensures in
    let t3 = and_pushed t2 (ascii ", ") c.push-in-Some-2.new.self c.push-in-Some-2.ensures in
    rw c.in-Some.is (record { says = t3.so; fits = fits })
