-- The two radixes: N1 of docs/SHEETS.md has binary counts of 16 bits, N2 decimal ones of four digits.
use Rattle.std.specs.Prelude.{ℕ, Bool, true, false}

-- how many counts a radix has; true is BCD
abbrev pub radix_counts : Bool → ℕ
radix_counts false = 65536
radix_counts true = 10000
