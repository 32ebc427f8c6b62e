-- Subtraction that goes round: document 01's "subtraction mod 65,536", and the same mod 10,000 for decimal counts.
use Rattle.std.specs.Prelude.{ℕ, ◌+◌, ◌-◌, ◌%◌}

-- (v - n) mod m: the one number below m that n more bring back to v, mod m (the laws `below`, `back` and `only` of proofs/Modulo.antt)
abbrev pub minus_mod : ℕ → ℕ → ℕ → ℕ
minus_mod m v n = (v + (m - n % m)) % m
