use Rattle.std.proofs.Common.{sym, subst, lt-ltb, le-ltb}
use Rattle.pit.specs.Trace.{replay_call}
use Rattle.pit.proofs.Fits.{Fits, answers-fit}
use Rattle.pit.proofs.trace_calls.pit_answers.Goals as goal

pub returns-then-answer-lt-BOARD_ANSWER_SIZE : goal.returns-then-answer-lt-BOARD_ANSWER_SIZE
unfolding replay_call
returns-then-answer-lt-BOARD_ANSWER_SIZE c = simp (c.from.ensures, lt-ltb _ _ c.if-answer-lt-BOARD_ANSWER_SIZE.true)

pub settle-requires : goal.settle-requires
settle-requires c = subst Fits (sym c.answers_into-answered.ensures) (answers-fit c.args.trace.now c.args.out.now)

pub returns : goal.returns
unfolding replay_call
returns c = simp (c.settle.ensures.0, c.settle.ensures.1, le-ltb _ _ c.if-answer-lt-BOARD_ANSWER_SIZE.false, sym c.answers_into-answered.ensures)
