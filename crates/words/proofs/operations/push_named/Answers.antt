use native.Mathlib.Omega.{arith}
use lib.ListN.{length-append}
use Rattle.std.proofs.Common.{◌≤◌, ◌++◌, length}
use Rattle.text.specs.Ascii.{ascii}
use Rattle.text.proofs.Rooms.{first, and_pushed}
use Rattle.line.specs.Line.{line_room}
use Rattle.std.proofs.Common.{true, false, ◌≡◌, sym, ◌∙◌}
use Rattle.control.specs.Control.{names_any}
use Rattle.words.proofs.Short.{if-short}
use Rattle.words.specs.Inner.{named_room}
use Rattle.words.specs.Commands.{channel_if}
use Rattle.words.proofs.operations.push_named.Goals as goal

pub returns-then-names_any : goal.returns-then-names_any
returns-then-names_any c =
    let w = c.args.word in
    let some : names_any w ≡ true = sym c.names_any.ensures ∙ c.if-names_any.true in
    let fits : length (ascii " of channels" ++ channel_if w.names_0 (ascii " 0") ++ channel_if w.names_1 (ascii " 1") ++ channel_if w.names_2 (ascii " 2")) ≤ named_room = simp length-append (omega (arith, if-short w.names_0 (ascii " 0"), if-short w.names_1 (ascii " 1"), if-short w.names_2 (ascii " 2"))) in
    let t1 = first {room = line_room} {before = c.args.line.now} (ascii " of channels") c.push.new.self c.push.ensures in
    let t2 = and_pushed t1 (channel_if w.names_0 (ascii " 0")) c.push_if.new.self c.push_if.ensures in
    let t3 = and_pushed t2 (channel_if w.names_1 (ascii " 1")) c.push_if-then-names_any.new.self c.push_if-then-names_any.ensures in
    let t4 = and_pushed t3 (channel_if w.names_2 (ascii " 2")) c.push_if-then-names_any-2.new.self c.push_if-then-names_any-2.ensures in
    rw some (record { says = t4.so; fits = fits })

pub returns-else-names_any-clause-says : goal.returns-else-names_any-clause-says
returns-else-names_any-clause-says c =
    let none : names_any c.args.word ≡ false = sym c.names_any.ensures ∙ c.if-names_any.false in
    rw none c.push-else-names_any.ensures
