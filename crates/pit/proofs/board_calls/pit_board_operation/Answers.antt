use Rattle.std.proofs.Common.{ap, ◌∙◌}
use Rattle.pit.specs.Board.{board_called}
use Rattle.pit.specs.Status.{status_number}
use Rattle.pit.proofs.Answered.{operation-answered, same-status}
use Rattle.pit.proofs.board_calls.pit_board_operation.Goals as goal

pub returns-in-Ok : goal.returns-in-Ok
returns-in-Ok c =
    let a = c.args in
    ap (λ l. board_called 0 c.call.new.bytes c.call.new.events l) c.answered.ensures
    ∙ operation-answered a.code a.target a.number a.place a.bytes.now a.events.now a.answer.now _ c.call.result _ _ _ c.operation_of-asked.ensures c.call.ensures c.in-Ok.is

pub returns-in-Err : goal.returns-in-Err
returns-in-Err c =
    let a = c.args in
    ap (λ n. board_called n c.call.new.bytes c.call.new.events a.answer.now) (c.from-in-Err.ensures ∙ ap status_number c.from.ensures ∙ same-status c.in-Err.error)
    ∙ operation-answered a.code a.target a.number a.place a.bytes.now a.events.now a.answer.now _ c.call.result _ _ _ c.operation_of-asked.ensures c.call.ensures c.in-Err.is
