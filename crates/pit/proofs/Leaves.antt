-- docs/ENCODING.md: "with such a number no lent byte changes". Where a call on a board or on a trace returns another number than 0, every lent byte is as it was. Assumes
-- nothing.
use Prim.Native.Nat.{ℕ, ◌*◌}
use mathlib.Core.Bool.{Bool, true, false, cond}
use mathlib.Core.List.{List}
use mathlib.Core.Path.{◌≡◌, refl}
use native.Mathlib.Omega.{arith}
use lib.Dec.{eqb, ltb}
use lib.ListN.{length}
use borrow.Author.Tests.{ne_eqb}
use Rattle.refusal.specs.Reply.{Reply, refused, accepted, number_in}
use Rattle.trace.specs.Judgement.{Judgement, refused_by, sound}
use Rattle.trace.specs.Trace.{Trace, read_trace}
use Rattle.board.specs.declared.Board.{Board}
use Rattle.board_encoding.specs.Places.{board_size}
use Rattle.board_encoding.specs.Loaded.{board_readable, board_in}
use Rattle.std.specs.Prelude.{Option, Some, None, Ok, Err}
use Rattle.board_operation.specs.declared.Operation.{Operation}
use Rattle.board_operation.specs.Asked.{operation_of}
use Rattle.board_operation.specs.Made.{Outcome-in-numbers, operate}
use Rattle.in_bytes.specs.declared.working.CallError.TheVariants.{Short, Unreadable, NoRoom}
use Rattle.in_bytes.specs.Called.{board_answer_size, Calling, calling, making, call_on, call}
use Rattle.runner.specs.declared.Form.TheVariants.{Answers}
use Rattle.runner.specs.Printed.{room_of, printed}
use Rattle.runner.specs.Lent.{Replaying, in_room, room_for, answers_of, answers_judged, replay_into, answers_into}
use Rattle.line.specs.Line.{line_room}
use Rattle.checkpoint.specs.Check.{check, checked_text, check_into}
use Rattle.checkpoint.specs.From.{Text, from_judged, text_into, replay_from_into}
use Rattle.checkpoint.specs.Mark.{mark, mark_judged, mark_into}
use Rattle.pit.specs.Board.{BoardCalled, answered_by, board_operation, new_status, new_after}
use Rattle.pit.specs.Trace.{ReplayCalled, replay_called, reply_after, replay_call}

-- "no lent byte changes", of a call on a board
abbrev pub Left : BoardCalled → List ℕ → List ℕ → List ℕ → Type 0
Left k bytes events answer = (k.bytes ≡ bytes) × (k.events ≡ events) × (k.answer ≡ answer)

module _ (bytes events answer : List ℕ) where
  -- what a call comes to leaves the lent bytes, unless it returns 0
  abbrev LeavesAll : Calling → Type 0
  LeavesAll k = ((answered_by k answer).status ≡ 0 → ⊥) → Left (answered_by k answer) bytes events answer

  made-leaves : (o : Outcome-in-numbers) (zero : Bool) → eqb o.numbers.refusal 0 ≡ zero → LeavesAll (making o bytes events)
  made-leaves o true is = rw is (λ set. absurd (set refl))
  made-leaves o false is = rw is (λ set. (refl, refl, refl))

  room-leaves : (short : Bool) (o : Outcome-in-numbers) → LeavesAll (cond short (calling (Err NoRoom) bytes events) (making o bytes events))
  room-leaves true o = λ set. (refl, refl, refl)
  room-leaves false o = made-leaves o (eqb o.numbers.refusal 0) refl

  on-leaves : (b : Board) (asked : Option Operation) (room place : ℕ) → LeavesAll (call_on b asked room place bytes events)
  on-leaves b None room place = λ set. (refl, refl, refl)
  on-leaves b (Some op) room place = room-leaves (ltb room board_answer_size) (operate b op events place)

  bytes-leave : (short good : Bool) (k : Calling) → LeavesAll k → LeavesAll (cond short (calling (Err Short) bytes events) (cond good k (calling (Err Unreadable) bytes events)))
  bytes-leave true good k leaves = λ set. (refl, refl, refl)
  bytes-leave false true k leaves = leaves
  bytes-leave false false k leaves = λ set. (refl, refl, refl)

  pub board-call-leaves : (code target number place : ℕ) → ((board_operation code target number place bytes events answer).status ≡ 0 → ⊥)
      → Left (board_operation code target number place bytes events answer) bytes events answer
  unfolding board_operation call
  board-call-leaves code target number place =
      bytes-leave (ltb (length bytes) board_size) (board_readable bytes) _ (on-leaves (board_in bytes) (operation_of code target number) (length answer) place)

pub new-call-leaves : (model divisor : ℕ) (bytes : List ℕ) → (new_status model divisor bytes ≡ 0 → ⊥) → new_after model divisor bytes ≡ bytes
unfolding new_after
new-call-leaves model divisor bytes set = simp (ne_eqb (new_status model divisor bytes) 0 set)

-- .. and of a call on a trace
abbrev pub ReplayLeft : ReplayCalled → List ℕ → List ℕ → Type 0
ReplayLeft k out answer = (k.out ≡ out) × (k.answer ≡ answer)

-- a replay that is refused leaves the lent bytes
abbrev Leaves : Replaying → List ℕ → Type 0
Leaves r out = (number : ℕ) → r.reply ≡ refused number → r.bytes ≡ out

module _ (out answer : List ℕ) where
  room-leaves-out : (room : ℕ) (text : List ℕ) (short : Bool) → ltb (length out) room ≡ short → Leaves (in_room room text out) out
  room-leaves-out room text true is number told = simp is
  room-leaves-out room text false is number told =
      let never : accepted (length text) ≡ refused number = simp is at told in
      let z : ◌≡◌ {A = ℕ} 0 1 = cc never in absurd (omega arith)

  replayed-leaves : (reply : Reply ℕ) (after : List ℕ) → ((number : ℕ) → reply ≡ refused number → after ≡ out) → (number_in reply ≡ 0 → ⊥)
      → ReplayLeft (replay_called (number_in reply) after (reply_after reply answer)) out answer
  replayed-leaves (refused number) after leaves set = (leaves number refl, refl)
  replayed-leaves (accepted n) after leaves set = absurd (set refl)

  replay-leaves : (r : Replaying) → Leaves r out → (short : Bool) → ltb (length answer) board_answer_size ≡ short → ((replay_call r out answer).status ≡ 0 → ⊥)
      → ReplayLeft (replay_call r out answer) out answer
  unfolding replay_call
  replay-leaves r leaves true is = rw is (λ set. (refl, refl))
  replay-leaves r leaves false is = rw is (replayed-leaves r.reply r.bytes leaves)

  into-leaves : (trace : List ℕ) → Leaves (replay_into trace out) out
  unfolding replay_into
  into-leaves trace = room-leaves-out (room_for (read_trace trace)) (printed trace) (ltb (length out) (room_for (read_trace trace))) refl

  judged-leaves : (judged : Judgement Trace) → Leaves (answers_judged judged out) out
  judged-leaves (refused_by f) = λ n told. refl
  judged-leaves (sound t) = room-leaves-out (room_of Answers * length t.operations) (answers_of t) (ltb (length out) (room_of Answers * length t.operations)) refl

  answers-leave : (trace : List ℕ) → Leaves (answers_into trace out) out
  unfolding answers_into
  answers-leave trace = judged-leaves (read_trace trace)

  pub replay-call-leaves : (trace : List ℕ) → ((replay_call (replay_into trace out) out answer).status ≡ 0 → ⊥)
      → ReplayLeft (replay_call (replay_into trace out) out answer) out answer
  replay-call-leaves trace = replay-leaves (replay_into trace out) (into-leaves trace) (ltb (length answer) board_answer_size) refl

  pub answers-call-leaves : (trace : List ℕ) → ((replay_call (answers_into trace out) out answer).status ≡ 0 → ⊥)
      → ReplayLeft (replay_call (answers_into trace out) out answer) out answer
  answers-call-leaves trace = replay-leaves (answers_into trace out) (answers-leave trace) (ltb (length answer) board_answer_size) refl

  text-leaves : (t : Text) → Leaves (text_into t out) out
  text-leaves t = room-leaves-out t.room t.text (ltb (length out) t.room) refl

  from-leaves : (trace : List ℕ) (k : ℕ) → Leaves (replay_from_into trace k out) out
  unfolding replay_from_into
  from-leaves trace k = text-leaves (from_judged trace k (read_trace trace))

  check-leaves : (trace : List ℕ) → Leaves (check_into trace out) out
  unfolding check_into
  check-leaves trace = room-leaves-out line_room (checked_text (check trace)) (ltb (length out) line_room) refl

  marked-leaves : (judged : Judgement (List ℕ)) → Leaves (mark_judged judged out) out
  marked-leaves (refused_by f) = λ n told. refl
  marked-leaves (sound marked) = room-leaves-out (length marked) marked (ltb (length out) (length marked)) refl

  mark-leaves : (trace : List ℕ) → Leaves (mark_into trace out) out
  unfolding mark_into
  mark-leaves trace = marked-leaves (mark trace)

  pub from-call-leaves : (trace : List ℕ) (k : ℕ) → ((replay_call (replay_from_into trace k out) out answer).status ≡ 0 → ⊥)
      → ReplayLeft (replay_call (replay_from_into trace k out) out answer) out answer
  from-call-leaves trace k = replay-leaves (replay_from_into trace k out) (from-leaves trace k) (ltb (length answer) board_answer_size) refl

  pub check-call-leaves : (trace : List ℕ) → ((replay_call (check_into trace out) out answer).status ≡ 0 → ⊥)
      → ReplayLeft (replay_call (check_into trace out) out answer) out answer
  check-call-leaves trace = replay-leaves (check_into trace out) (check-leaves trace) (ltb (length answer) board_answer_size) refl

  pub mark-call-leaves : (trace : List ℕ) → ((replay_call (mark_into trace out) out answer).status ≡ 0 → ⊥)
      → ReplayLeft (replay_call (mark_into trace out) out answer) out answer
  mark-call-leaves trace = replay-leaves (mark_into trace out) (mark-leaves trace) (ltb (length answer) board_answer_size) refl
