-- Document 01, "Counting, latch and reading": what one count takes from the counting element. "Any 16-bit start is allowed."
use Rattle.std.specs.Prelude.{ℕ, ◌-◌, Bool, true, false, cond, ◌==◌}
use Rattle.numbers.specs.Modulo.{minus_mod}
use Rattle.numbers.specs.Digits.{ones, tens, hundreds}

-- "A count takes one from the counting element; below zero the binary count goes round to 65,535."
abbrev pub binary_step : ℕ → ℕ
binary_step e = minus_mod 65536 e 1

-- "take 1, 0x7, 0x67 or 0x667 as the lowest non-zero digit is the ones, tens, hundreds or thousands"
abbrev pub decimal_take : ℕ → ℕ
decimal_take e =
    cond (ones e == 0) (cond (tens e == 0) (cond (hundreds e == 0) 0x667 0x67) 0x7) 1

-- "In BCD zero becomes 0x9999; otherwise take ..."
unfoldable pub decimal_step : ℕ → ℕ
decimal_step e = cond (e == 0) 0x9999 (e - decimal_take e)

-- one count in the radix: true is BCD
abbrev pub step_in : Bool → ℕ → ℕ
step_in true e = decimal_step e
step_in false e = binary_step e
