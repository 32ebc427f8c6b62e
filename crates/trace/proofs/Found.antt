-- The operation that is found at an index, where it is sound. Assumes nothing.
use Prim.Native.Nat.{ℕ, ◌+◌, ◌%◌, ◌<◌, ◌≤◌}
use mathlib.Core.Bool.{Bool, true, false, cond}
use mathlib.Core.List.{List}
use mathlib.Core.Path.{◌≡◌, refl, sym, ap, ◌∙◌}
use lib.ListN.{length, get_or}
use native.Mathlib.Omega.{arith}
use Rattle.std.specs.Prelude.{Option, None, Some}
use lib.Dec.{eqb, ltb}
use borrow.Author.Tests.{le-ltb, lt-ltb, eqb-true, ltb-true, ltb-false}
use Rattle.numbers.specs.Number.{number_at}
use Rattle.trace.specs.declared.operation.Operation.{Operation}
use Rattle.trace.specs.declared.operation.Operation.TheVariants.{Reset}
use Rattle.trace.specs.declared.rule.Rule.{Rule}
use Rattle.trace.specs.declared.rule.Rule.TheVariants.{Code, Target, NumberNotZero, NumberTooLarge}
use Rattle.trace.specs.Judgement.{Judgement, refused_by, sound, fault_at, fault_in}
use Rattle.trace.specs.Rule.{broken_rule}
use Rattle.trace.specs.Operation.{operation_of, judged_by, six_bytes, fitted, unjudged, place_of, operation_at, operation_in}
use Rattle.trace.proofs.Codes.{kept}
use Rattle.trace.proofs.Values.{not-refused}

abbrev value_or : {A : Type 0} → A → Judgement A → A
value_or other (refused_by f) = other
value_or other (sound value) = value

-- what is judged sound broke no rule, and is what was judged
ruled-sound : {A : Type 0} (rule : Option Rule) (index : ℕ) (value found : A) → judged_by rule index value ≡ sound found → (rule ≡ None) × (value ≡ found)
ruled-sound None index value found e = (refl, ap (value_or found) e)
ruled-sound (Some Code) index value found e = absurd (not-refused found (fault_in index 12 (place_of index)) (sym e))
ruled-sound (Some Target) index value found e = absurd (not-refused found (fault_in index 19 (place_of index + 1)) (sym e))
ruled-sound (Some NumberNotZero) index value found e = absurd (not-refused found (fault_in index 20 (place_of index + 2)) (sym e))
ruled-sound (Some NumberTooLarge) index value found e = absurd (not-refused found (fault_in index 21 (place_of index + 2)) (sym e))

fits-itself : (code number : ℕ) (one : Bool) → eqb code 1 ≡ one → (code ≡ 1 → number < 256) → cond one (number % 256) number ≡ number
fits-itself code number true is few = let h = few (eqb-true code 1 is) in omega (arith, h)
fits-itself code number false is few = refl

-- an operation that breaks no rule is its code's, with the number as it is
pub fitted-kept : (code target number : ℕ) → broken_rule code target number ≡ None → fitted code number ≡ number
fitted-kept code target number e = fits-itself code number (eqb code 1) refl (kept code target number e).1

module _ (bytes : List ℕ) (index : ℕ) (o : Operation) (is : operation_at bytes index ≡ sound o) where
  abbrev code : ℕ
  code = get_or bytes (place_of index) 0

  abbrev target : ℕ
  target = get_or bytes (place_of index + 1) 0

  abbrev number : ℕ
  number = number_at bytes (place_of index + 2)

  missing : length bytes < place_of index + 6 → ⊥
  unfolding operation_at
  missing h = not-refused o (fault_at 9 (length bytes)) (sym is ∙ simp (lt-ltb (length bytes) (place_of index + 6) h))

  there : place_of index + 6 ≤ length bytes → unjudged bytes (place_of index) ≡ o
  unfolding operation_at
  there h =
      let six : six_bytes bytes index (place_of index) ≡ sound o = sym (simp (le-ltb (length bytes) (place_of index + 6) h)) ∙ is in
      let both = ruled-sound (broken_rule code target number) index (operation_of code target number) o six in
      ap (operation_of code target) (fitted-kept code target number both.0) ∙ both.1

  by_length : (short : Bool) → ltb (length bytes) (place_of index + 6) ≡ short → cond short Reset (unjudged bytes (place_of index)) ≡ o
  by_length true e = absurd (missing (ltb-true (length bytes) (place_of index + 6) e))
  by_length false e = there (ltb-false (length bytes) (place_of index + 6) e)

  -- where the operation of an index is sound, that is what is found
  pub in-sound : operation_in bytes index ≡ o
  unfolding operation_in
  in-sound = by_length (ltb (length bytes) (place_of index + 6)) refl
