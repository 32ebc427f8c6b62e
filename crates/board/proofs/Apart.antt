-- An answer is known by document 01's number or values for it. Assumes nothing.
use Prim.Native.Nat.{ℕ}
use mathlib.Core.List.{List}
use mathlib.Core.Path.{◌≡◌, refl, ap, ap₂}
use Rattle.std.specs.Prelude.{Result}
use Rattle.refusal.specs.declared.Refusal.{Refusal}
use Rattle.refusal.proofs.Replies.{replies-apart}
use Rattle.board.specs.declared.Board.{Board}
use Rattle.board.specs.declared.Answered.{Answered}
use Rattle.board.specs.declared.Answer.{Answer}
use Rattle.board.specs.declared.Answer.TheVariants.{Done, Place, Byte, Ticks, OutputState, Count, Retriggers, Dirty, Worked}
use Rattle.board.specs.Outcome.{Value, done, new_place, byte, ticks, output_state, channel_count, retriggers, dirty_marks, timer_accum, worked, Outcome}
use Rattle.board.specs.Answer.{value_of, reply_of, outcome}

-- `get_timer_accum` answers no enum; its value is given Done here
abbrev value_answer : Value → Answer
value_answer done = Done
value_answer (new_place p) = Place p
value_answer (byte r) = Byte r
value_answer (ticks n) = Ticks (record { 0 = n })
value_answer (output_state level) = OutputState level
value_answer (channel_count register element counting) =
    Count (record { count_register = register; counting_element = element; counting = counting })
value_answer (retriggers answer) = Retriggers answer
value_answer (dirty_marks dirty counting ticked) = Dirty (record { dirty = dirty; counting = counting; ticked = ticked })
value_answer (timer_accum left) = Done
value_answer (worked made p) = Worked (record { made = record { 0 = made }; place = p })

value-back : (a : Answer) → value_answer (value_of a) ≡ a
value-back Done = refl
value-back (Place p) = refl
value-back (Byte r) = refl
value-back (Ticks t) = refl
value-back (OutputState level) = refl
value-back (Count c) = refl
value-back (Retriggers answer) = refl
value-back (Dirty marks) = refl
value-back (Worked w) = refl

pub answers-apart : (a c : Result Answer Refusal) → reply_of a ≡ reply_of c → a ≡ c
answers-apart = replies-apart value_of value_answer value-back

-- so a contract's equation leaves one answer, one board and one content of the lent bytes
pub outcomes-apart : (r s : Answered) (before after : List ℕ) → outcome r before ≡ outcome s after → (r ≡ s) × (before ≡ after)
outcomes-apart r s before after e =
    let answers : r.answer ≡ s.answer = answers-apart r.answer s.answer (ap (λ (o : Outcome). o.reply) e) in
    let boards : r.board ≡ s.board = ap (λ (o : Outcome). o.board) e in
    (ap₂ (λ (a : Result Answer Refusal) (b : Board). record { answer = a; board = b }) answers boards, ap (λ (o : Outcome). o.events) e)
