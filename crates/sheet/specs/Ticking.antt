-- What the sheets fix of a counter that runs with nothing written to it: its output and its value, j ticks after the tick that loaded the count n. Lines N1 to N4,
-- M0 to M5, M3-8253 and M3-8254 of docs/SHEETS.md. A count is 1 to 65,536, in BCD 1 to 10,000; written down, the largest is 0.
use Rattle.std.specs.Prelude.{ℕ, ◌+◌, ◌-◌, ◌*◌, ◌/◌, ◌%◌, Bool, true, false, not, cond, [], ◌∷◌, eqb, ltb, get_or}
use Rattle.numbers.specs.Modulo.{minus_mod}
use Rattle.numbers.specs.Digits.{packed}
use Rattle.numbers.specs.Radix.{radix_counts}

-- the two chips, whose ticks part in mode 3 only
pub data Chip : Type 0 where
  chip8253 : Chip
  chip8254 : Chip

-- N1, N2: a value as the counter holds it. The largest count stands as 0
abbrev pub held : Bool → ℕ → ℕ
held false v = v % 65536
held true v = packed (v % 10000)

-- M0, M1, M4, M5: every tick takes one, and the counter goes round
abbrev pub down_value : Bool → ℕ → ℕ → ℕ
down_value bcd n j = minus_mod (radix_counts bcd) n j

-- M2: "Period N": from N down to 1, and again
abbrev pub rate_value : ℕ → ℕ → ℕ
rate_value n j = n - j % n

-- M3: "even N: high N/2 ticks, low N/2; odd N: high (N + 1)/2, low (N - 1)/2"
abbrev pub high_ticks : ℕ → ℕ
high_ticks n = (n + 1) / 2

abbrev pub square_high : ℕ → ℕ → Bool
square_high n j = ltb (j % n) (high_ticks n)

-- the ticks since the output last changed
abbrev pub since_change : ℕ → ℕ → ℕ
since_change n j = cond (square_high n j) (j % n) (j % n - high_ticks n)

-- M3-8253, odd N: "loaded with N itself"; "with the output high the first tick after a load takes 1, with the output low 3, all others 2"
abbrev pub odd_value8253 : ℕ → Bool → ℕ → ℕ
odd_value8253 n high s = cond (eqb s 0) n (cond high (n - 1 - 2 * (s - 1)) (n - 3 - 2 * (s - 1)))

-- M3-8254: "Odd N loads N - 1. Ticks take 2."; with the output high "one tick passes after zero"
abbrev pub odd_value : Chip → ℕ → Bool → ℕ → ℕ
odd_value chip8253 n high s = odd_value8253 n high s
odd_value chip8254 n high s = n - 1 - 2 * s

-- "Even N: every tick takes 2"
abbrev pub square_value : Chip → ℕ → ℕ → ℕ
square_value chip n j =
    cond (eqb (n % 2) 0) (n - 2 * since_change n j) (odd_value chip n (square_high n j) (since_change n j))

-- the value of a mode
abbrev pub value_after : Chip → Bool → ℕ → ℕ → ℕ → ℕ
value_after chip bcd mode n j =
    get_or
    (down_value bcd n j ∷ down_value bcd n j ∷ rate_value n j ∷ square_value chip n j ∷ down_value bcd n j ∷ down_value bcd n j ∷ []) mode 0

-- M0: "high at zero, and it stays high"; M1: "low for N ticks"
abbrev pub high_from : ℕ → ℕ → Bool
high_from n j = not (ltb j n)

-- M2: "low for the one tick at which the element is 1"
abbrev pub rate_high : ℕ → ℕ → Bool
rate_high n j = not (eqb (rate_value n j) 1)

-- M4, M5: "low for the one tick at zero, then high"
abbrev pub strobe_high : ℕ → ℕ → Bool
strobe_high n j = not (eqb j n)

-- the output of a mode; true is high
abbrev pub output_after : ℕ → ℕ → ℕ → Bool
output_after mode n j =
    get_or (high_from n j ∷ high_from n j ∷ rate_high n j ∷ square_high n j ∷ strobe_high n j ∷ strobe_high n j ∷ []) mode true

-- N3, N3-8254: the smallest count is 1, in modes 2 and 3 it is 2
abbrev pub smallest : ℕ → ℕ
smallest mode = get_or (1 ∷ 1 ∷ 2 ∷ 2 ∷ 1 ∷ 1 ∷ []) mode 1
