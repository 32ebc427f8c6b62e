use native.Mathlib.Omega.{arith}
use lib.ListN.{length-append}
use Rattle.std.proofs.Common.{◌≤◌, ◌++◌, length}
use Rattle.text.specs.Ascii.{ascii}
use Rattle.text.specs.Number.{decimal}
use Rattle.text.proofs.Decimal.{decimal-u64}
use Rattle.text.proofs.Rooms.{first, and_pushed, said}
use Rattle.line.specs.Line.{line_room}
use Rattle.words.specs.Inner.{where_room}
use Rattle.words.specs.Faults.{which_words, where_words}
use Rattle.words.proofs.faults.where_words.Goals as goal

pub returns : goal.returns
unfolding where_words
returns c =
    let fits : length (which_words c.args.operation ++ ascii "byte " ++ decimal c.args.place ++ ascii ": ") ≤ where_room = simp length-append (omega (arith, c.push_which.ensures.fits, decimal-u64 c.args.place (omega arith))) in
    let t1 = first {room = line_room} {before = c.new-line.result} (which_words c.args.operation) c.push_which.new.line c.push_which.ensures.says in
    let t2 = and_pushed t1 (ascii "byte ") c.push.new.self c.push.ensures in
    let t3 = and_pushed t2 (decimal c.args.place) c.push_decimal.new.self c.push_decimal.ensures in
    let t4 = and_pushed t3 (ascii ": ") c.push-2.new.self c.push-2.ensures in
    record { says = said t4 c.new-line.ensures (omega (arith, fits)); fits = fits }
