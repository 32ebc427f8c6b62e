-- What a call on a trace returns fits its 32 bits: a number of the table, and 256 for each operation up to the one that is named, of which there are at most 4,096. Assumes
-- nothing.
use Prim.Native.Nat.{ℕ, ◌*◌, ◌≤◌, ◌<◌}
use mathlib.Core.List.{List}
use mathlib.Core.Path.{◌≡◌, refl}
use native.Mathlib.Omega.{arith}
use lib.Dec.{ltb}
use lib.ListN.{length}
use Rattle.refusal.specs.Reply.{number_in}
use Rattle.channel.proofs.Pick.{pick-holds}
use Rattle.std.specs.Prelude.{Option, Some, None}
use Rattle.trace.specs.Judgement.{Judgement, refused_by, sound, and_then}
use Rattle.trace.specs.Trace.{Trace, read_trace}
use Rattle.trace.specs.Refusals.{NamedIn}
use Rattle.trace.proofs.Named.{named-inside}
use Rattle.line.specs.Line.{line_room}
use Rattle.runner.specs.declared.Form.TheVariants.{Answers}
use Rattle.runner.specs.Printed.{room_of, printed}
use Rattle.runner.specs.Lent.{Replaying, fault_status, in_room, room_for, answers_of, answers_judged, answers_into, replay_into}
use Rattle.checkpoint.specs.Check.{check, checked_text, check_into}
use Rattle.checkpoint.specs.From.{from_judged, replay_from_into}
use Rattle.checkpoint.specs.Mark.{mark, marked_as, mark_judged, mark_into}

abbrev pub Fits : Replaying → Type 0
Fits r = number_in r.reply < 4294967296

room_fits : (room : ℕ) (text bytes : List ℕ) → Fits (in_room room text bytes)
room_fits room text bytes = pick-holds Fits (ltb (length bytes) room) _ _ (omega arith) (omega arith)

status-fits : (trace : List ℕ) (operations number place : ℕ) (operation : Option ℕ) → NamedIn trace operations place operation → number ≤ 21
    → fault_status number operation < 4294967296
status-fits trace operations number place None named few = omega arith
status-fits trace operations number place (Some index) named few = omega (arith, named.0, named.1)

answers_by : (trace bytes : List ℕ) (j : Judgement Trace) → read_trace trace ≡ j → Fits (answers_judged j bytes)
answers_by trace bytes (refused_by f) is =
    let named = named-inside trace f is in status-fits trace _ f.number f.place f.operation named.0 named.1
answers_by trace bytes (sound t) is = room_fits (room_of Answers * length t.operations) (answers_of t) bytes

marked_by : (trace bytes : List ℕ) (j : Judgement Trace) → read_trace trace ≡ j → Fits (mark_judged (and_then j (λ t. sound (marked_as trace t))) bytes)
marked_by trace bytes (refused_by f) is =
    let named = named-inside trace f is in status-fits trace _ f.number f.place f.operation named.0 named.1
marked_by trace bytes (sound t) is = room_fits (length (marked_as trace t)) (marked_as trace t) bytes

module _ (trace bytes : List ℕ) where
  pub replay-fits : Fits (replay_into trace bytes)
  unfolding replay_into
  replay-fits = room_fits (room_for (read_trace trace)) (printed trace) bytes

  pub answers-fit : Fits (answers_into trace bytes)
  unfolding answers_into
  answers-fit = answers_by trace bytes (read_trace trace) refl

  pub from-fits : (k : ℕ) → Fits (replay_from_into trace k bytes)
  unfolding replay_from_into
  from-fits k = let t = from_judged trace k (read_trace trace) in room_fits t.room t.text bytes

  pub check-fits : Fits (check_into trace bytes)
  unfolding check_into
  check-fits = room_fits line_room (checked_text (check trace)) bytes

  pub mark-fits : Fits (mark_into trace bytes)
  unfolding mark_into mark
  mark-fits = marked_by trace bytes (read_trace trace) refl
