-- Document 01, "Recorded traces": "Numbers are little-endian u32."; docs/ENCODING.md has the same words.
use Rattle.std.specs.Prelude.{ℕ, ◌+◌, ◌*◌, List}
use Rattle.numbers.specs.Little.{word_at}

-- the number whose four bytes begin at a place
unfoldable pub number_at : List ℕ → ℕ → ℕ
number_at bytes place = word_at bytes place + 65536 * word_at bytes (place + 2)
