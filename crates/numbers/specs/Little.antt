-- Numbers in bytes, the low byte first. Document 01: "Numbers are little-endian"; docs/ENCODING.md has the same words.
use Rattle.std.specs.Prelude.{ℕ, ◌+◌, ◌*◌, ◌/◌, ◌%◌, List, [], ◌∷◌, get_or}

-- a number of 16 bits
abbrev pub two_bytes : ℕ → List ℕ
two_bytes n = n % 256 ∷ n / 256 % 256 ∷ []

-- .. and one of 32
abbrev pub four_bytes : ℕ → List ℕ
four_bytes n = n % 256 ∷ n / 256 % 256 ∷ n / 256 / 256 % 256 ∷ n / 256 / 256 / 256 % 256 ∷ []

-- the number whose two bytes stand at a place
abbrev pub word_at : List ℕ → ℕ → ℕ
word_at bytes place = get_or bytes place 0 + 256 * get_or bytes (place + 1) 0
