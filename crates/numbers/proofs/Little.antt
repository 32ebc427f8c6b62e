-- A number is found again from its bytes, and bytes from their number. Assumes nothing.
use Prim.Native.Nat.{ℕ, ◌+◌, ◌*◌, ◌/◌, ◌%◌, ◌<◌}
use mathlib.Core.Path.{◌≡◌}
use mathlib.Core.List.{[], ◌∷◌}
use native.Mathlib.Omega.{arith}
use Rattle.numbers.specs.Little.{two_bytes, four_bytes}

pub word_back : (n : ℕ) → n < 65536 → n % 256 + 256 * (n / 256 % 256) ≡ n
word_back n h = omega arith

pub long-back : (n : ℕ) → n < 4294967296
    → n % 256 + 256 * (n / 256 % 256) + 65536 * (n / 256 / 256 % 256 + 256 * (n / 256 / 256 / 256 % 256)) ≡ n
long-back n h = omega arith

pub two-of : (a b : ℕ) → a < 256 → b < 256 → two_bytes (a + 256 * b) ≡ a ∷ b ∷ []
two-of a b ha hb =
    let n = a + 256 * b in
    let once : n / 256 ≡ b = omega arith in
    let low : n % 256 ≡ a = omega arith in
    let high : n / 256 % 256 ≡ b = rw once (omega arith) in
    λ i. low i ∷ high i ∷ []

pub four-of : (a b c d : ℕ) → a < 256 → b < 256 → c < 256 → d < 256
    → four_bytes (a + 256 * b + 65536 * (c + 256 * d)) ≡ a ∷ b ∷ c ∷ d ∷ []
four-of a b c d ha hb hc hd =
    let n = a + 256 * b + 65536 * (c + 256 * d) in
    let once : n / 256 ≡ b + 256 * (c + 256 * d) = omega arith in
    let twice : n / 256 / 256 ≡ c + 256 * d = rw once (omega arith) in
    let thrice : n / 256 / 256 / 256 ≡ d = rw twice (omega arith) in
    let low : n % 256 ≡ a = omega arith in
    let second : n / 256 % 256 ≡ b = rw once (omega arith) in
    let third : n / 256 / 256 % 256 ≡ c = rw twice (omega arith) in
    let high : n / 256 / 256 / 256 % 256 ≡ d = rw thrice (omega arith) in
    λ i. low i ∷ second i ∷ third i ∷ high i ∷ []
