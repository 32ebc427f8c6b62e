-- Document 01, "Recorded traces": a trace is sound, or it is refused by a number at a place: "`trace refused N at P`, P the field's offset (total length
-- for 9, first extra byte for 13)". Document 02, L8: "name the operation's index, counted from 0, beside the byte offset".
use Rattle.std.specs.Prelude.{ℕ, Bool, cond, List, ltb, length, Option, None, Some}

-- "N", the refusal's number, "P", and "operation I" where the fault stands inside one
pub record Faulted : Type 0 where
  pub number : ℕ
  pub place : ℕ
  pub operation : Option ℕ

-- refused by a fault, or sound, with what was read
pub data Judgement (A : Type 0) : Type 0 where
  refused_by : Faulted → Judgement A
  sound : A → Judgement A

-- a number at a place: "the older line stays for faults outside operations" (02, L8)
abbrev pub fault_at : ℕ → ℕ → Faulted
fault_at number place = record { number = number; place = place; operation = None }

abbrev pub refused_at : {A : Type 0} → ℕ → ℕ → Judgement A
refused_at number place = refused_by (fault_at number place)

-- .. inside the operation of an index
abbrev pub fault_in : ℕ → ℕ → ℕ → Faulted
fault_in index number place = record { number = number; place = place; operation = Some index }

abbrev pub refused_in : {A : Type 0} → ℕ → ℕ → ℕ → Judgement A
refused_in index number place = refused_by (fault_in index number place)

-- "Fields are checked from the front: bytes present, then the rule." Bytes are wanted up to an end; what comes after is judged only if they are there
abbrev pub present : {A : Type 0} → List ℕ → ℕ → Judgement A → Judgement A
present bytes end after = cond (ltb (length bytes) end) (refused_at 9 (length bytes)) after

-- a rule broken is its number at the field's place
abbrev pub ruled : {A : Type 0} → Bool → ℕ → ℕ → Judgement A → Judgement A
ruled broken number place after = cond broken (refused_at number place) after

-- of two parts the first one's fault counts
abbrev pub and_then : {A B : Type 0} → Judgement A → (A → Judgement B) → Judgement B
and_then (refused_by f) after = refused_by f
and_then (sound value) after = after value
