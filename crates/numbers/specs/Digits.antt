-- Four digits of four bits in one 16-bit number, and the decimal number that they stand for (docs/SHEETS.md, N2: "four decades").
use Rattle.std.specs.Prelude.{ℕ, ◌+◌, ◌*◌, ◌/◌, ◌%◌, ◌<◌, Bool, ◌&&◌, ltb}

abbrev pub ones : ℕ → ℕ
ones e = e % 16

abbrev pub tens : ℕ → ℕ
tens e = e / 16 % 16

abbrev pub hundreds : ℕ → ℕ
hundreds e = e / 16 / 16 % 16

abbrev pub thousands : ℕ → ℕ
thousands e = e / 16 / 16 / 16 % 16

-- the number that holds four digits: a thousands, b hundreds, c tens, d ones
abbrev pub pack : ℕ → ℕ → ℕ → ℕ → ℕ
pack a b c d = d + 16 * (c + 16 * (b + 16 * a))

-- each of the four digits is 0 to 9
pub record GoodDigits (e : ℕ) : Type 0 where
  pub ones-good : ones e < 10
  pub tens-good : tens e < 10
  pub hundreds-good : hundreds e < 10
  pub thousands-good : thousands e < 10

-- .. as a test
abbrev pub good_digits : ℕ → Bool
good_digits e = ltb (ones e) 10 && ltb (tens e) 10 && ltb (hundreds e) 10 && ltb (thousands e) 10

-- what the digits stand for, read as decimal: 1,000, 100, 10 and 1 times the four digits. Digits above 9 have their weight too
unfoldable pub weight : ℕ → ℕ
weight e = 1000 * thousands e + 100 * hundreds e + 10 * tens e + ones e

-- the packed decimal digits of a number below 10,000
unfoldable pub packed : ℕ → ℕ
packed v = pack (v / 10 / 10 / 10 % 10) (v / 10 / 10 % 10) (v / 10 % 10) (v % 10)
