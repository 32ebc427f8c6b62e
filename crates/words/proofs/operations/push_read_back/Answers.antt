use native.Mathlib.Omega.{arith}
use lib.ListN.{length-append}
use Rattle.std.proofs.Common.{◌≤◌, length}
use Rattle.text.specs.Ascii.{ascii}
use Rattle.text.proofs.Rooms.{first, and_pushed}
use Rattle.line.specs.Line.{line_room}
use Rattle.words.specs.Inner.{asked_room}
use Rattle.words.specs.Commands.{latched_words, named_words, read_back_words}
use Rattle.words.proofs.operations.push_read_back.Goals as goal

pub returns : goal.returns
returns c =
    let fits : length (read_back_words c.args.word) ≤ asked_room = simp length-append (omega (arith, c.push_latched.ensures.fits, c.push_named.ensures.fits)) in
    let t1 = first {room = line_room} {before = c.args.line.now} (ascii " ; read back") c.push.new.self c.push.ensures in
    let t2 = and_pushed t1 (latched_words c.args.word.counts c.args.word.status) c.push_latched.new.line c.push_latched.ensures.says in
    let t3 = and_pushed t2 (named_words c.args.word) c.push_named.new.line c.push_named.ensures.says in
    record { says = t3.so; fits = fits }
