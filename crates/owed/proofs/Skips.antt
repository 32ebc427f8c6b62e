-- How many ticks are skipped at once, and that they are quiet on each channel. Assumes nothing.
use Prim.Native.Nat.{ℕ, ◌<◌, ◌≤◌, min}
use mathlib.Core.Path.{◌≡◌}
use native.Mathlib.Omega.{arith}
use lib.Dec.{ltb}
use borrow.Author.Tests.{ltb-true, ltb-false}
use Rattle.channel.specs.declared.Channel.{Channel}
use Rattle.channel.proofs.Pick.{pick-knowing}
use Rattle.quiet.specs.Inner.{quiet}
use Rattle.quiet.proofs.ManyTicks.{skip-is-ticks, quiet-output}
use Rattle.owed.specs.Told.{smaller}
use Rattle.owed.specs.Inner.{alike, Skips}

-- what `min` answers
pub min-smaller : (m n : ℕ) → min m n ≡ smaller m n
min-smaller m n =
    pick-knowing (λ k. min m n ≡ k) (ltb n m) n m (λ below. let h : n < m = ltb-true _ _ below in omega arith)
    (λ above. let h : m ≤ n = ltb-false _ _ above in omega arith)

not-above-first : (m n : ℕ) → smaller m n ≤ m
not-above-first m n =
    pick-knowing (λ k. k ≤ m) (ltb n m) n m (λ below. let h : n < m = ltb-true _ _ below in omega arith) (λ above. omega arith)

not-above-second : (m n : ℕ) → smaller m n ≤ n
not-above-second m n = pick-knowing (λ k. k ≤ n) (ltb n m) n m (λ below. omega arith) (λ above. ltb-false _ _ above)

-- the least of five is not above any of them
pub record Few (left owed : ℕ) (c₀ c₁ c₂ : Channel) (skipped : ℕ) : Type 0 where
  pub in_left : skipped ≤ left
  pub in-owed : skipped ≤ owed
  pub in-quiet₀ : skipped ≤ quiet c₀
  pub in-quiet₁ : skipped ≤ quiet c₁
  pub in-quiet₂ : skipped ≤ quiet c₂

pub alike-few : (left owed : ℕ) (c₀ c₁ c₂ : Channel) (skipped : ℕ) → skipped ≡ alike left owed c₀ c₁ c₂ → Few left owed c₀ c₁ c₂ skipped
alike-few left owed c₀ c₁ c₂ skipped is =
    let last = smaller (quiet c₁) (quiet c₂) in
    let all = smaller (quiet c₀) last in
    let due = smaller owed all in
    let d : due ≤ owed = not-above-first owed all in
    let a : due ≤ all = not-above-second owed all in
    let l : all ≤ last = not-above-second (quiet c₀) last in
    let s : skipped ≤ due = omega (arith, is, not-above-second left due) in
    record {
      in_left = omega (arith, is, not-above-first left due);
      in-owed = omega (arith, s, d);
      in-quiet₀ = omega (arith, s, a, not-above-first (quiet c₀) last);
      in-quiet₁ = omega (arith, s, a, l, not-above-first (quiet c₁) (quiet c₂));
      in-quiet₂ = omega (arith, s, a, l, not-above-second (quiet c₁) (quiet c₂));
    }

pub quiet-skips : (ticks : ℕ) (c : Channel) → c.counter.counting_element < 65536 → ticks ≤ quiet c → Skips ticks c
quiet-skips ticks c fits few = record { ticked = λ model. skip-is-ticks model ticks c fits few; still = λ model. quiet-output model ticks c fits few }
