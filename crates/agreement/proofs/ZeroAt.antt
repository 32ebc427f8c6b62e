-- When a count of n that goes down comes to zero: with the n-th tick, and not before. What the tests of the modes then come to, one tick on. Assumes
-- nothing.
use Prim.Native.Nat.{ℕ, suc, ◌-◌, ◌<◌, ◌≤◌}
use mathlib.Core.Bool.{Bool, true, false, not, ◌&&◌, ◌||◌}
use mathlib.Core.Path.{◌≡◌, refl, ◌∙◌}
use native.Mathlib.Omega.{arith}
use lib.Dec.{eqb, ltb}
use borrow.Author.Tests.{lt-ltb, le-ltb, eq-eqb, ne_eqb, ltb-true, ltb-false, eqb-true, eqb-false}
use Rattle.numbers.specs.Radix.{radix_counts}
use Rattle.sheet.specs.Ticking.{held, down_value, high_from, strobe_high}
use Rattle.agreement.proofs.HeldCounts.{values-above, held-minus}
use Rattle.agreement.proofs.HeldMarks.{eqb-as, held-zero}

-- the next tick comes before the n-th, is it, or comes after it
three_ways : (j n : ℕ) (P : Type 0) → (suc j < n → P) → (suc j ≡ n → P) → (n ≤ j → P) → P
three_ways j n P before at after = by_tests (ltb j n) (eqb (suc j) n) refl refl
  where
    by_tests : (l e : Bool) → ltb j n ≡ l → eqb (suc j) n ≡ e → P
    by_tests true true l e = at (eqb-true (suc j) n e)
    by_tests true false l e =
        let less : j < n = ltb-true j n l in
        let other : suc j ≡ n → ⊥ = eqb-false (suc j) n e in
        before (omega arith)
    by_tests false e l t = after (ltb-false j n l)

-- up to there the value is the difference, so it is 0 exactly with the n-th tick
zero-at : (bcd : Bool) (n j : ℕ) → n ≤ radix_counts bcd → j < n → eqb (held bcd (down_value bcd n (suc j))) 0 ≡ eqb (suc j) n
zero-at bcd n j most h =
    let below : n - suc j < radix_counts bcd = omega (arith, values-above bcd) in
    rw (held-minus bcd n (suc j) (omega arith))
    (held-zero bcd (n - suc j) below ∙ eqb-as (suc j) n (n - suc j) 0 (λ (q : suc j ≡ n). omega arith) (λ (q : n - suc j ≡ 0). omega arith))

module _ (bcd : Bool) (n j : ℕ) (most : n ≤ radix_counts bcd) where
  -- M0, M1: high from there on
  pub rises : (high_from n j || eqb (held bcd (down_value bcd n (suc j))) 0) ≡ high_from n (suc j)
  rises =
      three_ways j n ((high_from n j || eqb (held bcd (down_value bcd n (suc j))) 0) ≡ high_from n (suc j))
      (λ (before : suc j < n). simp (lt-ltb j n (omega arith), lt-ltb (suc j) n before, zero-at bcd n j most (omega arith), ne_eqb (suc j) n (λ q. omega arith)))
      (λ (now : suc j ≡ n). simp (lt-ltb j n (omega arith), le-ltb (suc j) n (omega arith), zero-at bcd n j most (omega arith), eq-eqb (suc j) n now))
      (λ (past : n ≤ j). simp (le-ltb j n past, le-ltb (suc j) n (omega arith)))

  -- M4, M5: low there alone, once for the load
  pub strobes-once : not (ltb j n && eqb (held bcd (down_value bcd n (suc j))) 0) ≡ strobe_high n (suc j)
  strobes-once =
      three_ways j n (not (ltb j n && eqb (held bcd (down_value bcd n (suc j))) 0) ≡ strobe_high n (suc j))
      (λ (before : suc j < n). simp (lt-ltb j n (omega arith), zero-at bcd n j most (omega arith)))
      (λ (now : suc j ≡ n). simp (lt-ltb j n (omega arith), zero-at bcd n j most (omega arith)))
      (λ (past : n ≤ j). simp (le-ltb j n past, ne_eqb (suc j) n (λ q. omega arith)))

  -- .. and the channel is armed until then
  pub armed-until : (ltb j n && not (ltb j n && eqb (held bcd (down_value bcd n (suc j))) 0)) ≡ ltb (suc j) n
  armed-until =
      three_ways j n ((ltb j n && not (ltb j n && eqb (held bcd (down_value bcd n (suc j))) 0)) ≡ ltb (suc j) n)
      (λ (before : suc j < n). simp (lt-ltb j n (omega arith), lt-ltb (suc j) n before, zero-at bcd n j most (omega arith), ne_eqb (suc j) n (λ q. omega arith)))
      (λ (now : suc j ≡ n). simp (lt-ltb j n (omega arith), le-ltb (suc j) n (omega arith), zero-at bcd n j most (omega arith), eq-eqb (suc j) n now))
      (λ (past : n ≤ j). simp (le-ltb j n past, le-ltb (suc j) n (omega arith)))
