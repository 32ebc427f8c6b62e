-- What the rules leave of an operation's code and number. Assumes nothing.
use Prim.Native.Nat.{ℕ, zero, suc, ◌<◌, ◌≤◌}
use mathlib.Core.Path.{◌≡◌, refl, sym, subst}
use mathlib.Core.Bool.{Bool, true, false, cond}
use native.Mathlib.Omega.{arith}
use Rattle.std.specs.Prelude.{Option, None, Some}
use lib.Dec.{ltb}
use borrow.Author.Tests.{ne_eqb, ltb-false}
use Rattle.trace.specs.declared.operation.Operation.TheVariants.{WorkOff}
use Rattle.trace.specs.declared.rule.Rule.{Rule}
use Rattle.trace.specs.declared.rule.Rule.TheVariants.{Code, NumberTooLarge}
use Rattle.trace.specs.Rule.{broken_rule}
use Rattle.trace.specs.Operation.{operation_of}

-- what is no code below 9 works ticks off
pub last_code : (code target number : ℕ) → (code ≡ 1 → ⊥) → (code ≡ 2 → ⊥) → (code ≡ 3 → ⊥) → (code ≡ 4 → ⊥) → (code ≡ 5 → ⊥) → (code ≡ 6 → ⊥)
    → (code ≡ 7 → ⊥) → (code ≡ 8 → ⊥) → WorkOff number ≡ operation_of code target number
last_code code target number one two three four five six seven eight =
    simp (ne_eqb code 1 one, ne_eqb code 2 two, ne_eqb code 3 three, ne_eqb code 4 four, ne_eqb code 5 five, ne_eqb code 6 six, ne_eqb code 7 seven, ne_eqb code 8 eight)

abbrev Kept : Option Rule → Type 0
Kept None = Unit
Kept (Some rule) = ⊥

broken-not : (rule : Rule) → Some rule ≡ None → ⊥
broken-not rule e = subst Kept (sym e) tt

-- a byte that a write may have
write_kept : (number : ℕ) (large : Bool) → ltb 255 number ≡ large → cond large (Some NumberTooLarge) None ≡ None → number < 256
write_kept number true e is = absurd (broken-not NumberTooLarge is)
write_kept number false e is = let h : number ≤ 255 = ltb-false 255 number e in omega arith

-- an operation that breaks no rule has a code, and a byte where it writes one
pub kept : (code target number : ℕ) → broken_rule code target number ≡ None → (1 ≤ code) × (code ≡ 1 → number < 256)
kept zero target number e = absurd (broken-not Code e)
kept (suc code) target number e = (
  omega arith,
  λ one. write_kept number (ltb 255 number) refl (subst (λ (k : ℕ). broken_rule k target number ≡ None) one e),
)
