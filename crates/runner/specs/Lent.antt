-- docs/ENCODING.md, `pit_replay` and `pit_answers`: a trace replayed into lent bytes of any length.
use Rattle.std.specs.Prelude.{ℕ, suc, ◌+◌, ◌*◌, cond, List, ◌++◌, ltb, length, drop, Option, None, Some, Result, Ok, Err}
use Rattle.refusal.specs.Reply.{Reply, refused, accepted}
use Rattle.refusal.specs.Refusal.{refusal_number}
use Rattle.trace.specs.Judgement.{Judgement, refused_by, sound}
use Rattle.trace.specs.Trace.{Trace, read_trace}
use Rattle.board.specs.Making.{fresh}
use Rattle.line.specs.Line.{line_room}
use Rattle.runner.specs.declared.Form.TheVariants.{Answers}
use Rattle.runner.specs.declared.lending.ReplayError.{ReplayError}
use Rattle.runner.specs.declared.lending.ReplayError.TheVariants.{Refused, Short}
use Rattle.runner.specs.Printed.{room_of, told_from, printed}

-- how many bytes were written or the number of a refusal, and the lent bytes
pub record Replaying : Type 0 where
  pub reply : Reply ℕ
  pub bytes : List ℕ

-- "105 fewer bytes of `out` than the trace can take"; otherwise the text stands at the front, and the bytes behind it are as they were
abbrev pub in_room : ℕ → List ℕ → List ℕ → Replaying
in_room room text bytes =
    cond (ltb (length bytes) room) (record { reply = refused 105; bytes = bytes })
    (record { reply = accepted (length text); bytes = text ++ drop (length text) bytes })

-- "64 for the head, for each operation and for the end, or 64 in all for a trace that is refused"
abbrev pub room_for : Judgement Trace → ℕ
room_for (refused_by f) = line_room
room_for (sound t) = line_room * (length t.operations + 2)

-- "writes what the replay program would print to the front of `out`"
unfoldable pub replay_into : List ℕ → List ℕ → Replaying
replay_into trace bytes = in_room (room_for (read_trace trace)) (printed trace) bytes

-- what is said of each operation, from the fresh board on
abbrev pub answers_of : Trace → List ℕ
answers_of t = told_from Answers (fresh t.model t.divisor) 0 t.operations

-- "Of a trace that is refused, the number; inside operation I, 256 x (I + 1) more"
abbrev pub index_counted : Option ℕ → ℕ
index_counted None = 0
index_counted (Some index) = suc index

abbrev pub fault_status : ℕ → Option ℕ → ℕ
fault_status number operation = number + 256 * index_counted operation

-- "the trace's refusal, 105"; "16 for each operation"
abbrev pub answers_judged : Judgement Trace → List ℕ → Replaying
answers_judged (refused_by f) bytes = record { reply = refused (fault_status f.number f.operation); bytes = bytes }
answers_judged (sound t) bytes = in_room (room_of Answers * length t.operations) (answers_of t) bytes

unfoldable pub answers_into : List ℕ → List ℕ → Replaying
answers_into trace bytes = answers_judged (read_trace trace) bytes

-- what the code answers, with the lent bytes at its end
abbrev pub reply_in : Result ℕ ReplayError → Reply ℕ
reply_in (Ok n) = accepted n
reply_in (Err (Refused refusal operation)) = refused (fault_status (refusal_number refusal) operation)
reply_in (Err Short) = refused 105

abbrev pub replayed : Result ℕ ReplayError → List ℕ → Replaying
replayed r bytes = record { reply = reply_in r; bytes = bytes }
