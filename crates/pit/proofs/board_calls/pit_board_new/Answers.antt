use Rattle.std.proofs.Common.{ap, sym, ◌∙◌, lt-ltb, le-ltb}
use Rattle.refusal.specs.Reply.{number_in}
use Rattle.refusal.proofs.Numbered.{number-set}
use Rattle.channel.specs.Models.{model_numbered}
use Rattle.board.specs.Answer.{reply_of}
use Rattle.board.specs.Making.{new}
use Rattle.board.specs.Outcome.{Outcome}
use Rattle.runner.proofs.Whole.{new-board}
use Rattle.pit.specs.Board.{new_status, new_after}
use Rattle.pit.proofs.board_calls.pit_board_new.Goals as goal

pub returns-then-bytes-lt-BOARD_SIZE : goal.returns-then-bytes-lt-BOARD_SIZE
unfolding new_status new_after
returns-then-bytes-lt-BOARD_SIZE c = let short = lt-ltb _ _ c.if-bytes-lt-BOARD_SIZE.true in (simp (c.from.ensures, short), simp short)

pub returns-then-model-gt1 : goal.returns-then-model-gt1
unfolding new_status new_after
returns-then-model-gt1 c =
    let long = le-ltb _ _ c.if-bytes-lt-BOARD_SIZE.false in
    let unknown = lt-ltb _ _ c.if-model-gt1.true in
    (simp (c.from-then-model-gt1.ensures, long, unknown), simp (long, unknown))

pub returns-in-Ok : goal.returns-in-Ok
unfolding new_status new_after
returns-in-Ok c =
    let a = c.args in
    let long = le-ltb _ _ c.if-bytes-lt-BOARD_SIZE.false in
    let known = le-ltb _ _ c.if-model-gt1.false in
    let made = c.new-made.ensures ∙ ap (λ m. new m a.divisor) (c.numbered.ensures ∙ ap model_numbered c.from-2.ensures) in
    let none = ap (λ (o : Outcome). number_in o.reply) (sym made) ∙ ap (λ r. number_in (reply_of r)) c.in-Ok.is in
    let board = ap (λ (o : Outcome). o.board) made ∙ new-board (model_numbered a.model) a.divisor in
    (simp (long, known, none), c.put_front.ensures.1 ∙ simp (long, known, none, c.board_bytes.ensures, board))

pub returns-in-Err : goal.returns-in-Err
unfolding new_status new_after
returns-in-Err c =
    let a = c.args in
    let long = le-ltb _ _ c.if-bytes-lt-BOARD_SIZE.false in
    let known = le-ltb 1 _ c.if-model-gt1.false in
    let made = c.new-made.ensures ∙ ap (λ m. new m a.divisor) (c.numbered.ensures ∙ ap model_numbered c.from-2.ensures) in
    let number = ap (λ (o : Outcome). number_in o.reply) (sym made) ∙ ap (λ r. number_in (reply_of r)) c.in-Err.is in
    (c.from-in-Err.ensures ∙ c.number.ensures ∙ simp (long, known, number), simp (long, known, number, number-set))
