use Prim.Native.Nat.{ℕ}
use mathlib.Core.List.{List}
use mathlib.Core.Path.{ap, ◌∙◌}
use Rattle.line.specs.Line.{line_room}
use Rattle.line.specs.Said.{sentence_text}
use Rattle.runner.specs.Lent.{in_room}
use Rattle.runner.proofs.Lent.{no-room}
use Rattle.checkpoint.specs.Check.{check, checked_text, check_into}
use Rattle.checkpoint.proofs.Texts.{front}
use Rattle.checkpoint.proofs.checking.check_into.Goals as goal

pub returns-then-out-lt-LINE_ROOM : goal.returns-then-out-lt-LINE_ROOM
unfolding check_into
returns-then-out-lt-LINE_ROOM c = let a = c.args in no-room line_room (checked_text (check a.trace.now)) a.out.now c.if-out-lt-LINE_ROOM.true

pub returns : goal.returns
unfolding check_into
returns c =
    let a = c.args in
    front (sentence_text c.sentence_of.result) line_room a.out.now _ _ c.put_sentence.ensures c.if-out-lt-LINE_ROOM.false
    ∙ ap (λ (text : List ℕ). in_room line_room text a.out.now) (c.sentence_of.ensures ∙ ap checked_text c.check.ensures)
