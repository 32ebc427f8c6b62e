-- docs/ENCODING.md: "Only the first bytes of a lent buffer are read or written; what lies past them stays as it was." A buffer that is too short for
-- what is to be stored stays as it was altogether.
use Rattle.std.specs.Prelude.{ℕ, Bool, cond, List, ◌++◌, leb, length, drop}

-- whether n bytes fit the buffer
abbrev pub fits : ℕ → List ℕ → Bool
fits n bytes = leb n (length bytes)

unfoldable pub put_front : List ℕ → List ℕ → List ℕ
put_front front bytes = cond (fits (length front) bytes) (front ++ drop (length front) bytes) bytes
