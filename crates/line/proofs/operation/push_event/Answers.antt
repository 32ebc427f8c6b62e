use native.Mathlib.Omega.{arith}
use lib.ListN.{length-append}
use Rattle.std.proofs.Common.{◌≤◌, ◌++◌, ◌+◌, length, get_or}
use Rattle.text.specs.Ascii.{ascii}
use Rattle.text.specs.Number.{decimal}
use Rattle.text.proofs.Decimal.{decimal-u8}
use Rattle.text.proofs.Rooms.{first, and_pushed, and_number}
use Rattle.line.specs.Line.{line_room}
use Rattle.std.proofs.Common.{ℕ}
use mir.Syntax.{w8}
use mir.Val.{Fits}
use borrow.Author.Rules.{rules}
use Rattle.line.specs.Inner.{event_room}
use borrow.Author.Tests.{lt-ltb}
use Rattle.line.proofs.operation.push_event.Goals as goal

pub returns-then-at-written : goal.returns-then-at-written
returns-then-at-written c =
    let small : (i : ℕ) → Fits w8 (get_or c.args.events i 0) = λ i. search rules in
    let channel = get_or c.args.events c.args.at 0 in
    let level = get_or c.args.events (c.args.at + 1) 0 in
    let fits : length (ascii " out " ++ decimal channel ++ ascii " " ++ decimal level) ≤ event_room = simp length-append (omega (arith, decimal-u8 channel (small c.args.at).fits, decimal-u8 level (small (c.args.at + 1)).fits)) in
    let t1 = first {room = line_room} {before = c.args.line.now} (ascii " out ") c.push.new.self c.push.ensures in
    let t2 = and_number t1 channel c.from.result c.push_decimal.new.self c.from.ensures c.push_decimal.ensures in
    let t3 = and_pushed t2 (ascii " ") c.push-then-at-written.new.self c.push-then-at-written.ensures in
    let t4 = and_number t3 level c.from-then-at-written.result c.push_decimal-then-at-written.new.self c.from-then-at-written.ensures c.push_decimal-then-at-written.ensures in
    rw (lt-ltb c.args.at c.args.written c.if-at-written.true) (record { says = t4.so; fits = fits })
