-- Document 01's number and values for each answer of the code.
use Rattle.std.specs.Prelude.{ℕ, List, [], Result, Err}
use Rattle.refusal.specs.Reply.{Reply}
use Rattle.refusal.specs.Reply as refusal
use Rattle.refusal.specs.declared.Refusal.{Refusal}
use Rattle.board.specs.declared.Board.{Board}
use Rattle.board.specs.declared.Answer.{Answer}
use Rattle.board.specs.declared.Answer.TheVariants.{Done, Place, Byte, Ticks, OutputState, Count, Retriggers, Dirty, Worked}
use Rattle.board.specs.declared.Answered.{Answered}
use Rattle.board.specs.Outcome.{Value, done, new_place, byte, ticks, output_state, count_value, retriggers, dirty_marks, worked, Outcome}

abbrev pub value_of : Answer → Value
value_of Done = done
value_of (Place p) = new_place p
value_of (Byte r) = byte r
value_of (Ticks t) = ticks t.0
value_of (OutputState level) = output_state level
value_of (Count c) = count_value c
value_of (Retriggers answer) = retriggers answer
value_of (Dirty marks) = dirty_marks marks.dirty marks.counting marks.ticked
value_of (Worked w) = worked w.made.0 w.place

abbrev pub reply_of : Result Answer Refusal → Reply Value
reply_of = refusal.reply_of value_of

-- an answer with the board beside it, and the lent bytes at the call's end
abbrev pub outcome : Answered → List ℕ → Outcome
outcome r events = record { reply = reply_of r.answer; board = r.board; events = events }

-- the answer of a query, which hands no board back: the caller's stays as it is
abbrev pub queried : Result Answer Refusal → Board → Outcome
queried answer b = record { reply = reply_of answer; board = b; events = [] }

-- what the code hands back where it refuses
abbrev pub refused_by : Refusal → Board → Answered
refused_by refusal b = record { answer = Err refusal; board = b }
