use Rattle.std.proofs.Common.{sym, arith}
use Rattle.line.specs.Lines.{fault_line}
use Rattle.text.proofs.Puts.{wrote}
use Rattle.trace.specs.Answer.{fault_of}
use Rattle.trace.proofs.Sound.{judged-sound, judged-refused}
use Rattle.runner.specs.Printed.{printed}
use Rattle.runner.proofs.Whole.{prints}
use Rattle.runner.proofs.Lent.{room-refused, room-sound, too_short, written}
use Rattle.runner.proofs.lending.replay_into.Goals as goal

pub returns-then-out-lt-LINE_ROOM : goal.returns-then-out-lt-LINE_ROOM
returns-then-out-lt-LINE_ROOM c =
    let a = c.args in
    let is = judged-refused a.trace.now (fault_of c.in-Err.fault) (sym c.in-Err.ensures) in
    too_short a.trace.now a.out.now _ (room-refused a.trace.now _ is) c.if-out-lt-LINE_ROOM.true

pub returns-then-out-head : goal.returns-then-out-head
returns-then-out-head c =
    let a = c.args in
    let head = c.in-Ok.head in
    too_short a.trace.now a.out.now _ (room-sound a.trace.now head (judged-sound a.trace.now head (sym c.in-Ok.ensures))) c.if-out-head.true

pub replay_sound-requires-clause-operations_value : goal.replay_sound-requires-clause-operations_value
replay_sound-requires-clause-operations_value c = (judged-sound _ _ (sym c.in-Ok.ensures)).all_sound

pub replay_sound-requires-clause-operations_bound : goal.replay_sound-requires-clause-operations_bound
replay_sound-requires-clause-operations_bound c = (judged-sound _ _ (sym c.in-Ok.ensures)).not-too-many

pub returns-else-out-lt-LINE_ROOM : goal.returns-else-out-lt-LINE_ROOM
unfolding printed
returns-else-out-lt-LINE_ROOM c =
    let a = c.args in
    let fault = fault_of c.in-Err.fault in
    let is = judged-refused a.trace.now fault (sym c.in-Err.ensures) in
    let line = c.put_sentence.ensures in
    let room = c.if-out-lt-LINE_ROOM.false in
    let all = prints (wrote (fault_line fault) a.out.now 0 _ _ line.told) (omega (arith, line.short, room)) in
    written a.trace.now a.out.now _ (room-refused a.trace.now _ is) _ _ room (rw is all)

pub returns-else-out-head : goal.returns-else-out-head
unfolding printed
returns-else-out-head c =
    let a = c.args in
    let head = c.in-Ok.head in
    let whole = judged-sound a.trace.now head (sym c.in-Ok.ensures) in
    written a.trace.now a.out.now _ (room-sound a.trace.now head whole) _ _ c.if-out-head.false (rw whole.whole c.replay_sound.ensures)
