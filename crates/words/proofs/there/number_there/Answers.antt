use native.Mathlib.Omega.{arith}
use borrow.Author.Tests.{le-ltb}
use Rattle.std.proofs.Common.{◌≤◌, ◌++◌, ◌+◌, length}
use Rattle.text.specs.Ascii.{ascii}
use Rattle.text.specs.Number.{decimal}
use Rattle.text.proofs.Decimal.{decimal-u32}
use Rattle.text.proofs.Rooms.{first, and_number, said}
use Rattle.line.specs.Line.{line_room}
use Rattle.words.specs.Inner.{there_room}
use Rattle.words.proofs.there.number_there.Goals as goal

pub returns-then-saturating_sub-ge4 : goal.returns-then-saturating_sub-ge4
returns-then-saturating_sub-ge4 c =
    let a = c.args in
    let n = c.number_at.result in
    let inside : a.place + 4 ≤ length a.trace.now = omega (arith, c.saturating_sub.ensures, c.if-saturating_sub-ge4.true) in
    let fits : length (ascii "; here it is " ++ decimal n) ≤ there_room = omega (arith, decimal-u32 n (omega arith)) in
    let t1 = first {room = line_room} {before = c.new-line.result} (ascii "; here it is ") c.push.new.self c.push.ensures in
    let t2 = and_number t1 n c.from.result c.push_decimal.new.self c.from.ensures c.push_decimal.ensures in
    rw (le-ltb _ _ inside, ← c.number_at.ensures) (record { says = said t2 c.new-line.ensures (omega (arith, fits)); fits = fits })
