-- The digits that `io` makes are the decimal text of the number, and how long that text is at most. Assumes nothing.
use Prim.Native.Nat.{ℕ, zero, suc, ◌/◌, ◌%◌, ◌^◌, ◌<◌, ◌≤◌}
use mathlib.Core.Bool.{Bool, true, false}
use mathlib.Core.List.{[], ◌∷◌, ◌++◌}
use mathlib.Core.Path.{◌≡◌, refl}
use native.Mathlib.Nat.{one-le-pow}
use native.Mathlib.Numerals.{sub-one}
use native.Mathlib.Omega.{arith}
use lib.Dec.{ltb}
use lib.ListN.{length, length-append}
use borrow.Author.Tests.{lt-ltb, le-ltb, ltb-true, ltb-false}
use Rattle.io.specs.Digits.{hex_digit_ascii, last_digits, IsDigitCount}
use Rattle.text.specs.Number.{digit, decimal_to, decimal}

same-digit : (d : ℕ) → d < 10 → hex_digit_ascii d ≡ digit d
same-digit d h = simp (lt-ltb d 10 h)

one-digit : (limit n : ℕ) → n < 10 → decimal_to limit n ≡ digit n ∷ []
one-digit zero n h = refl
one-digit (suc limit) n h = simp (lt-ltb n 10 h)

last-digit : (limit n : ℕ) → 10 ≤ n → decimal_to (suc limit) n ≡ decimal_to limit (n / 10) ++ digit (n % 10) ∷ []
last-digit limit n h = simp (le-ltb n 10 h)

digits-decimal_to : (limit k n : ℕ) → n < 10 ^ suc limit → IsDigitCount 10 1 n k → last_digits 10 k n ≡ decimal_to limit n
digits-decimal_to limit zero n h f = absurd (omega arith)
digits-decimal_to limit (suc zero) n h f =
    let small : n < 10 = omega arith in
    let rest : n % 10 ≡ n = omega arith in
    simp (one-digit limit n small, rest, same-digit n small)
digits-decimal_to zero (suc (suc k)) n h f =
    let least : 10 ^ suc k ≤ n = simp sub-one at (f.2 (omega arith)) in
    absurd (omega (arith, one-le-pow k 10 (omega arith)))
digits-decimal_to (suc limit) (suc (suc k)) n h f =
    let least : 10 ^ suc k ≤ n = simp sub-one at (f.2 (omega arith)) in
    let more : 10 ≤ n = omega (arith, one-le-pow k 10 (omega arith)) in
    let front : last_digits 10 (suc k) (n / 10) ≡ decimal_to limit (n / 10) = digits-decimal_to limit (suc k) (n / 10) (omega arith) (omega arith, omega arith, λ _. simp sub-one (omega arith)) in
    simp (last-digit limit n more, front, same-digit (n % 10) (omega arith))

pub digits_decimal : (n k : ℕ) → n < 18446744073709551616 → IsDigitCount 10 1 n k → last_digits 10 k n ≡ decimal n
unfolding decimal
digits_decimal n k h f = digits-decimal_to 19 k n (omega arith) f

one-more : (limit n k : ℕ) (small : Bool) → ltb n 10 ≡ small → n < 10 ^ suc k
    → ((k : ℕ) → n / 10 < 10 ^ suc k → length (decimal_to limit (n / 10)) ≤ suc k)
    → length (decimal_to (suc limit) n) ≤ suc k
one-more limit n k true s h front = simp (one-digit (suc limit) n (ltb-true n 10 s)) (omega arith)
one-more limit n zero false s h front = absurd (omega (arith, ltb-false n 10 s))
one-more limit n (suc k) false s h front =
    let shorter : length (decimal_to limit (n / 10)) ≤ suc k = front k (omega arith) in
    simp (last-digit limit n (ltb-false n 10 s), length-append) (omega arith)

short-to : (limit n k : ℕ) → n < 10 ^ suc k → length (decimal_to limit n) ≤ suc k
short-to zero n k h = omega arith
short-to (suc limit) n k h = one-more limit n k (ltb n 10) refl h (short-to limit (n / 10))

pub decimal-short : (k n : ℕ) → n < 10 ^ suc k → length (decimal n) ≤ suc k
unfolding decimal
decimal-short k n h = short-to 19 n k h

pub decimal-u8 : (n : ℕ) → n < 256 → length (decimal n) ≤ 3
decimal-u8 n h = decimal-short 2 n (omega arith)

pub decimal-u32 : (n : ℕ) → n < 4294967296 → length (decimal n) ≤ 10
decimal-u32 n h = decimal-short 9 n (omega arith)

pub decimal-u64 : (n : ℕ) → n < 18446744073709551616 → length (decimal n) ≤ 20
decimal-u64 n h = decimal-short 19 n (omega arith)
