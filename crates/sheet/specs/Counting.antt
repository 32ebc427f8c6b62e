-- What one count does to the value counted: lines N1 and N2 of docs/SHEETS.md.
use Rattle.std.specs.Prelude.{ℕ, zero, suc}
use Rattle.numbers.specs.Modulo.{minus_mod}
use Rattle.numbers.specs.Digits.{weight, packed}

-- N1: "Binary counting is 16 bits: after 0 comes 65,535"
abbrev pub binary_next : ℕ → ℕ
binary_next zero = 65535
binary_next (suc v) = v

-- N2: "BCD counting is four decades: after 0000 comes 9999, otherwise the decimal value goes down by one. The sheets speak of decimal
-- digits only": the packed digits of (value - 1) mod 10,000
abbrev pub decimal_next : ℕ → ℕ
decimal_next e = packed (minus_mod 10000 (weight e) 1)
