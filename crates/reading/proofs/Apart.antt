-- An answer of `read_count` is known by its number or count. Assumes nothing.
use mathlib.Core.Bool.{cond}
use Prim.Native.Nat.{ℕ}
use mathlib.Core.Path.{◌≡◌, refl, ap, ap₂}
use lib.Dec.{ltb}
use Rattle.refusal.specs.Reply.{Reply, refused, accepted}
use Rattle.refusal.proofs.Apart.{apart_by}
use Rattle.refusal.proofs.Numbered.{refusal_numbered, below-101, numbered-back}
use Rattle.board.specs.declared.Board.{Board}
use Rattle.std.specs.Prelude.{Result, Ok, Err}
use Rattle.reading.specs.declared.CountError.{CountError}
use Rattle.reading.specs.declared.CountError.TheVariants.{Refused, NotReadable}
use Rattle.reading.specs.declared.CountAnswered.{CountAnswered}
use Rattle.reading.specs.ReadCount.{CountOutcome, count_reply, count_outcome}

-- 201 is no number of a refusal's
abbrev answer_of : Reply ℕ → Result ℕ CountError
answer_of (refused number) = Err (cond (ltb 100 number) NotReadable (Refused (refusal_numbered number)))
answer_of (accepted e) = Ok e

answer_back : (a : Result ℕ CountError) → answer_of (count_reply a) ≡ a
answer_back (Err (Refused refusal)) = simp (below-101 refusal, numbered-back refusal)
answer_back (Err NotReadable) = refl
answer_back (Ok e) = refl

pub count-answers-apart : (r s : CountAnswered) → count_outcome r ≡ count_outcome s → r ≡ s
count-answers-apart r s e =
    ap₂ (λ (a : Result ℕ CountError) (b : Board). record { answer = a; board = b })
    (apart_by count_reply answer_of answer_back r.answer s.answer (ap (λ (o : CountOutcome). o.reply) e))
    (ap (λ (o : CountOutcome). o.board) e)
