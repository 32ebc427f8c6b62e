-- What a call on a board comes to is told by what the code found, case by case. Assumes nothing.
use Prim.Native.Nat.{ℕ}
use mathlib.Core.List.{List}
use mathlib.Core.Path.{◌≡◌, refl, sym, ap, ◌∙◌}
use lib.ListN.{length}
use Rattle.std.specs.Prelude.{Option, Result, Err}
use Rattle.board_operation.specs.declared.Operation.{Operation}
use Rattle.board_operation.specs.declared.answering.Numbers.{Numbers}
use Rattle.board_operation.specs.Asked.{operation_of}
use Rattle.in_bytes.specs.declared.working.CallError.{CallError}
use Rattle.in_bytes.specs.declared.working.CallError.TheVariants.{Short, Unreadable, Unknown, NoRoom, Refused}
use Rattle.in_bytes.specs.Called.{status_of, calling, call}
use Rattle.pit.specs.Board.{answered_by, board_operation}
use Rattle.pit.specs.Status.{status_number, call_status}

pub operation-answered : (code target number place : ℕ) (bytes events answer : List ℕ) (asks : Option Operation) (found case : Result Numbers CallError) (after then : List ℕ)
    → asks ≡ operation_of code target number
    → calling found after then ≡ call asks (length answer) place bytes events
    → found ≡ case
    → answered_by (calling case after then) answer ≡ board_operation code target number place bytes events answer
unfolding board_operation
operation-answered code target number place bytes events answer asks found case after then is made told =
    ap (λ k. answered_by (calling k after then) answer) (sym told)
    ∙ ap (λ k. answered_by k answer) (made ∙ ap (λ q. call q (length answer) place bytes events) is)

-- the number that the code returns for each error is that of the table
pub same-status : (error : CallError) → status_number (call_status error) ≡ status_of (Err error)
same-status Short = refl
same-status Unreadable = refl
same-status Unknown = refl
same-status NoRoom = refl
same-status (Refused number) = refl
