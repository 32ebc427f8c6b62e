-- What the bytes from a place on spell: a byte that is no digit, one digit, and none left.
use Prim.Native.Nat.{ℕ, ◌+◌, ◌≤◌, ◌<◌}
use mathlib.Core.Logic.{◌⊎◌, inl, inr}
use Rattle.std.proofs.Common.{arith}
use mathlib.Core.Path.{◌≡◌, refl}
use mathlib.Core.List.{List}
use native.Mathlib.Numerals.{add-one}
use lib.ListN.{length, drop, get_or, drop_of_length-le}
use lib.Seq.{drop-cons}
use borrow.Author.Tests.{lt-ltb, le-ltb}
use Rattle.replay_from.specs.Decimal.{largest, appended, spelled_on}

module _ (digits : List ℕ) (n i : ℕ) (more : i < length digits) where
  too-low : get_or digits i 0 < 48 → spelled_on n (drop i digits) ≡ largest
  unfolding spelled_on
  too-low low = rw (drop-cons digits i 0 more, lt-ltb _ _ low) refl

  too-high : 48 ≤ get_or digits i 0 → 57 < get_or digits i 0 → spelled_on n (drop i digits) ≡ largest
  unfolding spelled_on
  too-high from high = rw (drop-cons digits i 0 more, le-ltb _ _ from, lt-ltb _ _ high) refl

  pub no_digit : (get_or digits i 0 < 48) ⊎ (57 < get_or digits i 0) → spelled_on n (drop i digits) ≡ largest
  no_digit (inl low) = too-low low
  no_digit (inr high) = too-high (omega arith) high

  pub one-more : 48 ≤ get_or digits i 0 → get_or digits i 0 ≤ 57 → spelled_on n (drop i digits) ≡ spelled_on (appended n (get_or digits i 0)) (drop (i + 1) digits)
  unfolding spelled_on
  one-more from to = rw (add-one, drop-cons digits i 0 more, le-ltb _ _ from, le-ltb _ _ to) refl

pub none_left : (digits : List ℕ) (n i : ℕ) → length digits ≤ i → spelled_on n (drop i digits) ≡ n
unfolding spelled_on
none_left digits n i h = rw (drop_of_length-le digits h) refl
