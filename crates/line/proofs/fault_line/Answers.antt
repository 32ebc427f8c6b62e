use native.Mathlib.Omega.{arith}
use lib.ListN.{length-append}
use Rattle.std.proofs.Common.{◌≤◌, ◌++◌, length}
use Rattle.text.specs.Ascii.{ascii}
use Rattle.text.specs.Number.{decimal}
use Rattle.text.proofs.Decimal.{decimal-u8, decimal-u64}
use Rattle.text.proofs.Rooms.{first, and_pushed, and_number, said}
use Rattle.line.specs.Line.{line_room}
use Rattle.std.proofs.Common.{◌<◌}
use Rattle.line.specs.Lines.{newline, within_text, fault_line}
use Rattle.line.proofs.fault_line.Goals as goal

pub returns : goal.returns
unfolding fault_line
returns c =
    let n = c.number.result in
    let at = c.args.fault.place in
    let place : at < 18446744073709551616 = omega arith in
    let fits : length (ascii "trace refused " ++ decimal n ++ ascii " at " ++ decimal at ++ within_text c.args.fault.operation ++ newline) ≤ line_room = simp length-append (omega (arith, decimal-u8 n (omega arith), decimal-u64 at place, c.push_within.ensures.fits)) in
    let t1 = first {room = line_room} {before = c.new-line.result} (ascii "trace refused ") c.push.new.self c.push.ensures in
    let t2 = and_number t1 n c.from.result c.push_decimal.new.self c.from.ensures c.push_decimal.ensures in
    let t3 = and_pushed t2 (ascii " at ") c.push-2.new.self c.push-2.ensures in
    let t4 = and_pushed t3 (decimal at) c.push_decimal-2.new.self c.push_decimal-2.ensures in
    let t5 = and_pushed t4 (within_text c.args.fault.operation) c.push_within.new.line c.push_within.ensures.says in
    let t6 = and_pushed t5 (newline) c.push-3.new.self c.push-3.ensures in
    rw (← c.number.ensures) (record { says = said t6 c.new-line.ensures fits; fits = fits })
