-- A number in decimal digits, as the program's first argument has it.
use Rattle.std.specs.Prelude.{ℕ, ◌+◌, ◌-◌, ◌*◌, cond, List, [], ◌∷◌, eqb, ltb, length}

-- what is no number counts as this one, and so does a number above it
abbrev pub largest : ℕ
largest = 4294967295

abbrev pub at_most : ℕ → ℕ
at_most n = cond (ltb largest n) largest n

-- the number with one digit more behind it
unfoldable pub appended : ℕ → ℕ → ℕ
appended n byte = at_most (10 * n + (byte - 48))

-- digits behind a number: `0` to `9`, one after another
unfoldable pub spelled_on : ℕ → List ℕ → ℕ
spelled_on n [] = n
spelled_on n (byte ∷ rest) = cond (ltb byte 48) largest (cond (ltb 57 byte) largest (spelled_on (appended n byte) rest))

-- no digits spell no number
unfoldable pub spelled : List ℕ → ℕ
spelled digits = cond (eqb (length digits) 0) largest (spelled_on 0 digits)
