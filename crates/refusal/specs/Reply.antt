-- What a call replies in document 01's terms: a refusal by its number, or what an accepted call says.
use Rattle.std.specs.Prelude.{ℕ, Result, Ok, Err}
use Rattle.refusal.specs.declared.Refusal.{Refusal}
use Rattle.refusal.specs.Refusal.{refusal_number}

pub data Reply (A : Type 0) : Type 0 where
  refused : ℕ → Reply A
  accepted : A → Reply A

-- the number of a refusal, 0 where there is none
abbrev pub number_in : {A : Type 0} → Reply A → ℕ
number_in (refused number) = number
number_in (accepted value) = 0

-- document 01's number for each refusal of the code, and its value for what the code answers
abbrev pub reply_of : {A : Type 0} → {B : Type 0} → (A → B) → Result A Refusal → Reply B
reply_of value (Ok answer) = accepted (value answer)
reply_of value (Err refusal) = refused (refusal_number refusal)
