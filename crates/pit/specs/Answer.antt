-- docs/ENCODING.md: "Its answer is 16 bytes: a number of eight bytes, then two of four."
use Rattle.std.specs.Prelude.{ℕ, ◌/◌, ◌%◌, List, ◌++◌}
use Rattle.numbers.specs.Little.{four_bytes}

-- a number of 64 bits, the low half first
abbrev pub eight_bytes : ℕ → List ℕ
eight_bytes n = four_bytes (n % 4294967296) ++ four_bytes (n / 4294967296)

abbrev pub board_answer_bytes : ℕ → ℕ → ℕ → List ℕ
board_answer_bytes a b c = eight_bytes a ++ four_bytes b ++ four_bytes c
