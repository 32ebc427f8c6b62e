use native.Mathlib.Omega.{arith}
use lib.ListN.{length-append}
use borrow.Author.Tests.{lt-ltb}
use Rattle.std.proofs.Common.{◌≤◌, ◌++◌, length, get_or}
use Rattle.text.specs.Number.{decimal}
use Rattle.text.proofs.Decimal.{decimal-u8}
use Rattle.text.proofs.Rooms.{first, and_number, said}
use Rattle.line.specs.Line.{line_room}
use Rattle.words.specs.Inner.{there_room}
use Rattle.words.proofs.there.byte_there.Goals as goal

pub returns-then-place-trace : goal.returns-then-place-trace
returns-then-place-trace c =
    let a = c.args in
    let byte = get_or a.trace.now a.place 0 in
    let byte_fits = c.type_inv.trace a.place in
    let fits : length (a.text.now ++ decimal byte) ≤ there_room = simp length-append (omega (arith, c.requires, decimal-u8 byte (omega (arith, byte_fits.fits)))) in
    let t1 = first {room = line_room} {before = c.new-line.result} a.text.now c.push.new.self c.push.ensures in
    let t2 = and_number t1 byte c.from.result c.push_decimal.new.self c.from.ensures c.push_decimal.ensures in
    rw (lt-ltb _ _ c.if-place-trace.true) (record { says = said t2 c.new-line.ensures (omega (arith, fits)); fits = fits })
