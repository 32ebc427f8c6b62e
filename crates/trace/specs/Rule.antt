-- Document 01, "Recorded traces": the rules of an operation's code, target and number.
use Rattle.std.specs.Prelude.{ℕ, Bool, false, not, cond, ◌||◌, eqb, ltb, Option, None, Some}
use Rattle.trace.specs.declared.rule.Rule.{Rule}
use Rattle.trace.specs.declared.rule.Rule.TheVariants.{Code, Target, NumberNotZero, NumberTooLarge}

-- 12 "operation code not 1 to 8"; "12 now means not 1 to 9" (02, L1)
abbrev pub code_broken : ℕ → Bool
code_broken code = eqb code 0 || ltb 9 code

-- "Target 0 for 6, 7, 8."; "Trace code 9, target 0" (02, L1). The code is tested before, so from 6 on it is one of these
abbrev pub target_broken : ℕ → ℕ → Bool
target_broken code target = cond (ltb code 6) false (not (eqb target 0))

-- "Number 0 for 2, 5, 8": broken by every other number, however large
abbrev pub zero_broken : ℕ → ℕ → Bool
zero_broken code number = cond (eqb code 2 || (eqb code 5 || eqb code 8)) (not (eqb number 0)) false

-- "at most 255 for 1; at most 1 for 3." Code 9 has no rule of its number: one above 65,536 is refused when it is run
abbrev pub size_broken : ℕ → ℕ → Bool
size_broken code number = cond (eqb code 1) (ltb 255 number) (cond (eqb code 3) (ltb 1 number) false)

-- "Of an operation all six bytes, then code, target, number."
abbrev pub broken_rule : ℕ → ℕ → ℕ → Option Rule
broken_rule code target number =
    cond (code_broken code) (Some Code)
    (cond (target_broken code target) (Some Target)
    (cond (zero_broken code number) (Some NumberNotZero) (cond (size_broken code number) (Some NumberTooLarge) None)))
