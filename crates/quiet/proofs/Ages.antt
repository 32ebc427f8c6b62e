-- Cycles in state go up by so many ticks at once as they do tick by tick, counts do not look at them, and none changes nothing. Assumes nothing.
use Prim.Native.Nat.{ℕ, zero, suc, ◌+◌, ◌-◌, ◌<◌, ◌≤◌}
use mathlib.Core.Bool.{Bool, true, false}
use mathlib.Core.Path.{◌≡◌, refl, sym}
use native.Mathlib.Nat.{add-zero}
use native.Mathlib.Omega.{arith}
use lib.Dec.{ltb}
use borrow.Author.Tests.{ltb-true, ltb-false, lt-ltb, le-ltb}
use Rattle.numbers.specs.Times.{times}
use Rattle.channel.specs.declared.Channel.{Channel}
use Rattle.count.specs.Count.{count}
use Rattle.count.proofs.Many.{counted-at-once}
use Rattle.tick.specs.Tick.{older, aged_by}

-- at the top they stay
older-full : (k : ℕ) → older k 4294967295 ≡ 4294967295
older-full zero = refl
older-full (suc k) = simp (lt-ltb 0 (suc k) (omega arith))

older-below : (b : Bool) (k n : ℕ) → n < 4294967295 → ltb (4294967295 - n) (suc k) ≡ b → older (suc k) n ≡ older k (n + 1)
older-below true k n below t =
    let h : 4294967295 - n < suc k = ltb-true _ _ t in
    let g : 4294967295 - (n + 1) < k = omega arith in
    simp (t, lt-ltb _ _ g)
older-below false k n below t =
    let h : suc k ≤ 4294967295 - n = ltb-false _ _ t in
    let g : k ≤ 4294967295 - (n + 1) = omega arith in
    simp (t, le-ltb _ _ g) (omega arith)

older-more : (b : Bool) (k n : ℕ) → ltb (4294967295 - n) 1 ≡ b → older (suc k) n ≡ older k (older 1 n)
older-more true k n t =
    let h : 4294967295 - n < suc k = omega (arith, ltb-true) in
    simp (t, lt-ltb _ _ h) (sym (older-full k))
older-more false k n t =
    let h : n < 4294967295 = omega (arith, ltb-false) in
    simp t (older-below (ltb (4294967295 - n) (suc k)) k n h refl)

pub aged-none : (c : Channel) → aged_by 0 c ≡ c
unfolding aged_by
aged-none c = simp (le-ltb (4294967295 - c.counter.cycles_in_state) 0 (omega arith), add-zero)

pub aged-more : (k : ℕ) (c : Channel) → aged_by (suc k) c ≡ aged_by k (aged_by 1 c)
unfolding aged_by
aged-more k c = simp (older-more (ltb (4294967295 - c.counter.cycles_in_state) 1) k c.counter.cycles_in_state refl)

pub counts-aged : (n k : ℕ) (c : Channel) → times n count (aged_by k c) ≡ aged_by k (times n count c)
counts-aged n k c = rw (counted-at-once n (aged_by k c), counted-at-once n c) (unfold aged_by in refl)
