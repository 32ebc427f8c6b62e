-- The bytes of a text that has only ASCII characters.
use Rattle.std.specs.Prelude.{ℕ, zero, suc, List, [], ◌∷◌}
use Prim.Native.Char.{code}
use Prim.Native.String.{String, len, char_at}

-- as many characters as are left, from a place on
abbrev pub chars_from : String → ℕ → ℕ → List ℕ
chars_from s place zero = []
chars_from s place (suc left) = code (char_at s place) ∷ chars_from s (suc place) left

-- all of them
abbrev pub ascii : String → List ℕ
ascii s = chars_from s 0 (len s)
