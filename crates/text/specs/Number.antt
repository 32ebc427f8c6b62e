-- A number as text. Document 01, "Recorded traces": "A read byte prints as two upper-case hex digits, all other numbers in decimal."
use Rattle.std.specs.Prelude.{ℕ, zero, suc, ◌+◌, ◌/◌, ◌%◌, cond, List, [], ◌∷◌, ◌++◌, ltb}

-- the ASCII code of a digit below 16: `0` to `9`, then `A` to `F`
abbrev pub digit : ℕ → ℕ
digit d = cond (ltb d 10) (48 + d) (55 + d)

-- the decimal digits of a number below ten to the power of limit + 1, none in front that is not needed
abbrev pub decimal_to : ℕ → ℕ → List ℕ
decimal_to zero n = digit n ∷ []
decimal_to (suc limit) n = cond (ltb n 10) (digit n ∷ []) (decimal_to limit (n / 10) ++ digit (n % 10) ∷ [])

-- of a number below ten to the power of 20: the greatest of 64 bits has 20 digits
unfoldable pub decimal : ℕ → List ℕ
decimal n = decimal_to 19 n

-- "two upper-case hex digits"
abbrev pub hex : ℕ → List ℕ
hex byte = digit (byte / 16) ∷ digit (byte % 16) ∷ []
