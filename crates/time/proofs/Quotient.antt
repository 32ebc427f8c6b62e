-- Quotient and rest where the quotient is 0 or 1. Assumes nothing.
use Prim.Native.Nat.{ℕ, ◌+◌, ◌-◌, ◌*◌, ◌/◌, ◌%◌, ◌<◌, ◌≤◌}
use mathlib.Core.Path.{◌≡◌, refl}
use native.Mathlib.Omega.{arith}
use lib.Arith.{digits_div, digits_mod}
use Rattle.time.specs.Time.{Yield, converted}

abbrev yields : ℕ → ℕ → Yield
yields ticks remainder = record { ticks = ticks; remainder = remainder }

by_digits : (sum divisor q r : ℕ) → q * divisor + r ≡ sum → r < divisor → yields q r ≡ converted sum divisor
by_digits sum divisor q r is h =
    let quotient : sum / divisor ≡ q = rw⁻¹ is (digits_div q h) in
    let rest : sum % divisor ≡ r = rw⁻¹ is (digits_mod q h) in
    rw (quotient, rest) refl

pub none_yet : (sum divisor : ℕ) → sum < divisor → yields 0 sum ≡ converted sum divisor
none_yet sum divisor h = by_digits sum divisor 0 sum (omega arith) h

pub just-one : (sum divisor : ℕ) → divisor ≤ sum → sum - divisor < divisor → yields 1 (sum - divisor) ≡ converted sum divisor
just-one sum divisor h k = by_digits sum divisor 1 (sum - divisor) (omega (arith, h)) k
