-- What the code answers is known by the reply that it comes to, where its value is found again. Assumes nothing.
use Rattle.std.specs.Prelude.{Result, Ok, Err}
use mathlib.Core.Path.{◌≡◌, ap}
use Rattle.refusal.specs.declared.Refusal.{Refusal}
use Rattle.refusal.specs.Reply.{Reply, refused, accepted, reply_of}
use Rattle.refusal.proofs.Apart.{apart_by}
use Rattle.refusal.proofs.Numbered.{refusal_numbered, numbered-back}

module _ {A B : Type 0} (value : A → B) (found : B → A) (back : (a : A) → found (value a) ≡ a) where
  abbrev answer_of : Reply B → Result A Refusal
  answer_of (refused number) = Err (refusal_numbered number)
  answer_of (accepted b) = Ok (found b)

  answer-back : (r : Result A Refusal) → answer_of (reply_of value r) ≡ r
  answer-back (Err refusal) = ap Err (numbered-back refusal)
  answer-back (Ok a) = ap Ok (back a)

  pub replies-apart : (r s : Result A Refusal) → reply_of value r ≡ reply_of value s → r ≡ s
  replies-apart = apart_by (reply_of value) answer_of answer-back
