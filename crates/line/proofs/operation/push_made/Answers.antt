use native.Mathlib.Omega.{arith}
use lib.ListN.{length-append}
use Rattle.std.proofs.Common.{◌≤◌, length}
use Rattle.text.specs.Ascii.{ascii}
use Rattle.text.proofs.Decimal.{decimal-u32}
use Rattle.text.proofs.Rooms.{first, and_pushed, and_number}
use Rattle.line.specs.Line.{line_room}
use Rattle.line.specs.Lines.{event_text, made_text}
use Rattle.line.specs.Inner.{answer_room}
use Rattle.line.proofs.operation.push_made.Goals as goal

pub returns : goal.returns
returns c =
    let n = c.args.worked.made.0 in
    let event = event_text c.args.worked.place in
    let fits : length (made_text n c.args.worked.place c.args.events) ≤ answer_room = simp length-append (omega (arith, decimal-u32 n (omega arith), c.push_event.ensures.fits, c.push_event-2.ensures.fits, c.push_event-3.ensures.fits)) in
    let t1 = first {room = line_room} {before = c.args.line.now} (ascii "made ") c.push.new.self c.push.ensures in
    let t2 = and_number t1 n c.from.result c.push_decimal.new.self c.from.ensures c.push_decimal.ensures in
    let t3 = and_pushed t2 (event 0 c.args.events) c.push_event.new.line c.push_event.ensures.says in
    let t4 = and_pushed t3 (event 2 c.args.events) c.push_event-2.new.line c.push_event-2.ensures.says in
    let t5 = and_pushed t4 (event 4 c.args.events) c.push_event-3.new.line c.push_event-3.ensures.says in
    record { says = t5.so; fits = fits }
