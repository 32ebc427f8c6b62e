use Rattle.line.specs.Line.{line_room}
use Rattle.line.specs.Lines.{fault_line}
use Rattle.trace.specs.Answer.{fault_of}
use Rattle.runner.proofs.Lent.{no-room}
use Rattle.checkpoint.proofs.Texts.{front}
use Rattle.checkpoint.proofs.starting.say_fault.Goals as goal

pub returns-then-out-lt-LINE_ROOM : goal.returns-then-out-lt-LINE_ROOM
returns-then-out-lt-LINE_ROOM c = let a = c.args in no-room line_room (fault_line (fault_of a.fault)) a.out.now c.if-out-lt-LINE_ROOM.true

pub returns : goal.returns
returns c =
    let a = c.args in
    front (fault_line (fault_of a.fault)) line_room a.out.now _ _ c.put_sentence.ensures c.if-out-lt-LINE_ROOM.false
