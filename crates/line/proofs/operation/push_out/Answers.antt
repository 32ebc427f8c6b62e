use native.Mathlib.Omega.{arith}
use lib.ListN.{length-append}
use Rattle.std.proofs.Common.{◌≤◌, length, get_or}
use Rattle.text.specs.Ascii.{ascii}
use Rattle.text.proofs.Decimal.{decimal-u8}
use Rattle.text.proofs.Rooms.{first, and_pushed, and_number}
use Rattle.line.specs.Line.{line_room}
use Rattle.std.proofs.Common.{ℕ}
use mir.Syntax.{w8}
use mir.Val.{Fits}
use borrow.Author.Rules.{rules}
use Rattle.line.specs.Lines.{out_text}
use Rattle.line.specs.Inner.{answer_room}
use Rattle.line.proofs.operation.push_out.Goals as goal

pub returns : goal.returns
returns c =
    let small : (i : ℕ) → Fits w8 (get_or c.args.events i 0) = λ i. search rules in
    let fits : length (out_text c.args.events) ≤ answer_room = simp length-append (omega (arith, decimal-u8 (get_or c.args.events 0 0) (small 0).fits, decimal-u8 (get_or c.args.events 1 0) (small 1).fits)) in
    let t1 = first {room = line_room} {before = c.args.line.now} (ascii "out ") c.push.new.self c.push.ensures in
    let t2 = and_number t1 (get_or c.args.events 0 0) c.from.result c.push_decimal.new.self c.from.ensures c.push_decimal.ensures in
    let t3 = and_pushed t2 (ascii " ") c.push-2.new.self c.push-2.ensures in
    let t4 = and_number t3 (get_or c.args.events 1 0) c.from-2.result c.push_decimal-2.new.self c.from-2.ensures c.push_decimal-2.ensures in
    record { says = t4.so; fits = fits }
