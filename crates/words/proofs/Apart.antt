-- Every refusal has words, and no two have the same. Assumes nothing.
use Prim.Native.Nat.{ℕ}
use mathlib.Core.Bool.{Bool, true, false, cond, ◌&&◌}
use mathlib.Core.List.{List, [], ◌∷◌, ◌++◌}
use mathlib.Core.Path.{◌≡◌, refl, sym, ap, ◌∙◌}
use native.Mathlib.Omega.{arith}
use lib.Dec.{eqb}
use borrow.Author.Tests.{eq-eqb}
use Rattle.refusal.specs.declared.Refusal.{Refusal}
use Rattle.refusal.specs.declared.Refusal.TheVariants.{PortUnknown, ChannelAbove2, DivisorZero, TicksBelowWarp, RemainderTooLarge, PlacePastEnd, NoRoom, TraceEnds, SettingsCount, TooManyOperations, UnknownCode, BytesAfter, TooManyTicks, TicksOwed, CheckpointCount, CheckpointWrong, TargetNotZero, NumberNotZero, TooLarge}
use Rattle.refusal.specs.Refusal.{refusal_number}
use Rattle.refusal.proofs.Numbered.{number-set, numbers_apart}
use Rattle.words.specs.Refusals.{Row, call_rows, trace_rows, added_rows, refusal_words}

abbrev same : List ℕ → List ℕ → Bool
same [] [] = true
same [] (y ∷ ys) = false
same (x ∷ xs) [] = false
same (x ∷ xs) (y ∷ ys) = eqb x y && same xs ys

-- the number in the row that has these words; 0, which no refusal has, where none has them
abbrev number_in : List Row → List ℕ → ℕ
number_in [] words = 0
number_in (r ∷ rows) words = cond (same words r.words) r.number (number_in rows words)

abbrev number_of : List ℕ → ℕ
number_of = number_in (call_rows ++ trace_rows ++ added_rows)

-- the one law that goes through the table: a refusal's number is found again from its words
number-back : (r : Refusal) → number_of (refusal_words (refusal_number r)) ≡ refusal_number r
unfolding refusal_words
number-back PortUnknown = refl
number-back ChannelAbove2 = refl
number-back DivisorZero = refl
number-back TicksBelowWarp = refl
number-back RemainderTooLarge = refl
number-back PlacePastEnd = refl
number-back NoRoom = refl
number-back TraceEnds = refl
number-back SettingsCount = refl
number-back TooManyOperations = refl
number-back UnknownCode = refl
number-back BytesAfter = refl
number-back TooManyTicks = refl
number-back TicksOwed = refl
number-back CheckpointCount = refl
number-back CheckpointWrong = refl
number-back TargetNotZero = refl
number-back NumberNotZero = refl
number-back TooLarge = refl

pub refusal-words-apart : (r s : Refusal) → refusal_words (refusal_number r) ≡ refusal_words (refusal_number s) → r ≡ s
refusal-words-apart r s e = numbers_apart r s (sym (number-back r) ∙ ap number_of e ∙ number-back s)

pub refusal-said : (r : Refusal) → refusal_words (refusal_number r) ≡ [] → ⊥
refusal-said r e =
    let z : refusal_number r ≡ 0 = sym (number-back r) ∙ ap number_of e in
    let t : true ≡ false = sym (eq-eqb (refusal_number r) 0 z) ∙ number-set r in
    let f : ◌≡◌ {A = ℕ} 0 1 = ap (λ b. cond b 0 1) t in
    omega arith
