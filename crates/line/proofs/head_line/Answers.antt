use native.Mathlib.Omega.{arith}
use lib.ListN.{length-append}
use Rattle.std.proofs.Common.{◌≤◌, ◌++◌, length}
use Rattle.text.specs.Ascii.{ascii}
use Rattle.text.specs.Number.{decimal}
use Rattle.text.proofs.Decimal.{decimal-u32}
use Rattle.text.proofs.Rooms.{first, and_pushed, and_number, said}
use Rattle.line.specs.Line.{line_room}
use Rattle.line.specs.Lines.{newline, head_line}
use Rattle.line.proofs.head_line.Goals as goal

pub returns : goal.returns
unfolding head_line
returns c =
    let fits : length (ascii "pit " ++ c.model_name.result ++ ascii " divisor " ++ decimal c.args.divisor ++ newline) ≤ line_room = simp length-append (omega (arith, decimal-u32 c.args.divisor (omega arith))) in
    let t1 = first {room = line_room} {before = c.new-line.result} (ascii "pit ") c.push.new.self c.push.ensures in
    let t2 = and_pushed t1 (c.model_name.result) c.push-2.new.self c.push-2.ensures in
    let t3 = and_pushed t2 (ascii " divisor ") c.push-3.new.self c.push-3.ensures in
    let t4 = and_number t3 c.args.divisor c.from.result c.push_decimal.new.self c.from.ensures c.push_decimal.ensures in
    let t5 = and_pushed t4 (newline) c.push-4.new.self c.push-4.ensures in
    rw (← c.model_name.ensures) (record { says = said t5 c.new-line.ensures fits; fits = fits })
