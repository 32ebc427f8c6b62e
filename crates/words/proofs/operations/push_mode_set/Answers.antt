use native.Mathlib.Omega.{arith}
use lib.ListN.{length-append}
use Rattle.std.proofs.Common.{◌≤◌, ◌++◌, length}
use Rattle.text.specs.Ascii.{ascii}
use Rattle.text.specs.Number.{decimal}
use Rattle.text.proofs.Decimal.{decimal-u8}
use Rattle.text.proofs.Rooms.{first, and_pushed, and_number}
use Rattle.line.specs.Line.{line_room}
use Rattle.words.specs.Inner.{asked_room}
use Rattle.words.specs.Commands.{access_words, radix_words}
use Rattle.words.proofs.operations.push_mode_set.Goals as goal

pub returns : goal.returns
returns c =
    let n = c.number.result in
    let fits : length (ascii " ; channel " ++ decimal c.args.channel ++ ascii ", mode " ++ decimal n ++ access_words c.args.word.rw_mode ++ radix_words c.args.word.bcd_mode) ≤ asked_room = simp length-append (omega (arith, decimal-u8 c.args.channel (omega arith), decimal-u8 n (omega arith), c.push_access.ensures.fits, c.push_radix.ensures.fits)) in
    let t1 = first {room = line_room} {before = c.args.line.now} (ascii " ; channel ") c.push.new.self c.push.ensures in
    let t2 = and_number t1 c.args.channel c.from.result c.push_decimal.new.self c.from.ensures c.push_decimal.ensures in
    let t3 = and_pushed t2 (ascii ", mode ") c.push-2.new.self c.push-2.ensures in
    let t4 = and_number t3 n c.from-2.result c.push_decimal-2.new.self c.from-2.ensures c.push_decimal-2.ensures in
    let t5 = and_pushed t4 (access_words c.args.word.rw_mode) c.push_access.new.line c.push_access.ensures.says in
    let t6 = and_pushed t5 (radix_words c.args.word.bcd_mode) c.push_radix.new.line c.push_radix.ensures.says in
    rw (← c.number.ensures) (record { says = t6.so; fits = fits })
