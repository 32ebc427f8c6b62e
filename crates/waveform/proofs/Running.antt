-- The sheets' counter itself: a tick takes a counter that stands at tick j of n to the next, and the closed forms of the sheets repeat as modes 2 and 3 do. Assumes
-- nothing.
use Prim.Native.Nat.{ℕ, suc, ◌%◌, ◌<◌, ◌≤◌}
use mathlib.Core.Bool.{Bool, true, false, cond, ◌||◌}
use mathlib.Core.Path.{◌≡◌, refl, sym, ap, ◌∙◌}
use native.Mathlib.Nat.{zero-mod, suc-mod, mod-lt, mod-eq_of_lt, mod_self}
use native.Mathlib.Omega.{arith}
use lib.Dec.{eqb}
use borrow.Author.Tests.{eqb-true, eqb-false}
use Rattle.channel.specs.declared.ChannelMode.{ChannelMode}
use Rattle.channel.specs.Modes.{mode_number}
use Rattle.channel.specs.Queries.{does_retrigger}
use Rattle.channel.proofs.Modes.{every-mode}
use Rattle.sheet.specs.Ticking.{Chip, high_ticks, value_after, output_after, smallest}
use Rattle.sheet.specs.Counter.{Fixed, fixed_at, Counter}
use Rattle.sheet.specs.CounterTick.{to_load, at, load_half, load, begins_low, reloads, count_to, rest, counts, tick}

-- the tick of the period that j ticks come to: modes 2 and 3 repeat
abbrev pub place_of : Bool → ℕ → ℕ → ℕ
place_of repeats n j = cond repeats (j % n) j

twice : (n j : ℕ) → 0 < n → j % n % n ≡ j % n
twice n j pos = mod-eq_of_lt (mod-lt j pos)

-- the closed forms do not tell a tick from the one of its period
pub output-place : (n j : ℕ) → 0 < n → (m : ChannelMode) → output_after (mode_number m) n (place_of (does_retrigger m) n j) ≡ output_after (mode_number m) n j
output-place n j pos =
    every-mode (λ (m : ChannelMode). output_after (mode_number m) n (place_of (does_retrigger m) n j) ≡ output_after (mode_number m) n j)
    refl refl (rw (twice n j pos) refl) (rw (twice n j pos) refl) refl refl

pub value-place : (chip : Chip) (bcd : Bool) (n j : ℕ) → 0 < n → (m : ChannelMode)
    → value_after chip bcd (mode_number m) n (place_of (does_retrigger m) n j) ≡ value_after chip bcd (mode_number m) n j
value-place chip bcd n j pos =
    every-mode (λ (m : ChannelMode). value_after chip bcd (mode_number m) n (place_of (does_retrigger m) n j) ≡ value_after chip bcd (mode_number m) n j)
    refl refl (rw (twice n j pos) refl) (rw (twice n j pos) refl) refl refl

-- the next tick of a period
next_of : (n j : ℕ) → 2 ≤ n → (last : Bool) → eqb (suc (j % n)) n ≡ last → suc j % n ≡ cond last 0 (suc (j % n))
next_of n j least true e = suc-mod j n ∙ ap (λ (x : ℕ). x % n) (eqb-true (suc (j % n)) n e) ∙ mod_self n
next_of n j least false e =
    let b : j % n < n = mod-lt j (omega arith) in
    let other : suc (j % n) ≡ n → ⊥ = eqb-false (suc (j % n)) n e in
    suc-mod j n ∙ mod-eq_of_lt (omega arith)

module _ (chip : Chip) (k : Counter) (n : ℕ) (takes : to_load k ≡ fixed_at n) (runs : counts k ≡ true) where
  -- a tick of a counter that stands at tick p
  tick-on : (p : ℕ) → tick chip (at chip k n p) ≡ count_to chip n (suc p) (at chip k n p)
  tick-on p = ap (λ (b : Bool). cond b (count_to chip n (suc p) (at chip k n p)) (rest (at chip k n p))) runs

  load-on : (low : Bool) (p : ℕ) → load chip low (at chip k n p) ≡ at chip k n (cond low (high_ticks n) 0)
  load-on low p = ap (λ (x : Fixed ℕ). load_half chip low x (at chip k n p)) takes

  count_by : (p : ℕ) (again low : Bool) → reloads k.mode n (suc p) ≡ again → begins_low k.mode n (suc p) ≡ low
      → tick chip (at chip k n p) ≡ at chip k n (cond again (cond low (high_ticks n) 0) (suc p))
  count_by p true low again half =
      tick-on p
      ∙ ap (λ (b : Bool). cond b (load chip (begins_low k.mode n (suc p)) (at chip k n p)) (at chip k n (suc p))) again
      ∙ ap (λ (b : Bool). load chip b (at chip k n p)) half
      ∙ load-on low p
  count_by p false low again half =
      tick-on p ∙ ap (λ (b : Bool). cond b (load chip (begins_low k.mode n (suc p)) (at chip k n p)) (at chip k n (suc p))) again

  -- in mode 3 the low half begins at its own tick
  square-next : (p : ℕ) (end half : Bool) → eqb (suc p) n ≡ end → eqb (suc p) (high_ticks n) ≡ half → 2 ≤ n
      → cond (end || half) (cond half (high_ticks n) 0) (suc p) ≡ cond end 0 (suc p)
  square-next p true true end half least =
      let e : suc p ≡ n = eqb-true (suc p) n end in
      let f : suc p ≡ high_ticks n = eqb-true (suc p) (high_ticks n) half in
      absurd (omega arith)
  square-next p true false end half least = refl
  square-next p false true end half least = sym (eqb-true (suc p) (high_ticks n) half)
  square-next p false false end half least = refl

  or-false : (b : Bool) → (b || false) ≡ b
  or-false true = refl
  or-false false = refl

  abbrev Next : ChannelMode → Type 0
  Next m = k.mode ≡ mode_number m → smallest (mode_number m) ≤ n → (j : ℕ)
      → tick chip (at chip k n (place_of (does_retrigger m) n j)) ≡ at chip k n (place_of (does_retrigger m) n (suc j))

  down-next : (j : ℕ) (m : ℕ) → k.mode ≡ m → reloads m n (suc j) ≡ false → begins_low m n (suc j) ≡ false → tick chip (at chip k n j) ≡ at chip k n (suc j)
  down-next j m mode again half =
      count_by j false false (ap (λ (x : ℕ). reloads x n (suc j)) mode ∙ again) (ap (λ (x : ℕ). begins_low x n (suc j)) mode ∙ half)

  rate-next : k.mode ≡ 2 → 2 ≤ n → (j : ℕ) → tick chip (at chip k n (j % n)) ≡ at chip k n (suc j % n)
  rate-next mode least j =
      count_by (j % n) (eqb (suc (j % n)) n) false
      (ap (λ (x : ℕ). reloads x n (suc (j % n))) mode ∙ or-false (eqb (suc (j % n)) n))
      (ap (λ (x : ℕ). begins_low x n (suc (j % n))) mode)
      ∙ ap (at chip k n) (sym (next_of n j least (eqb (suc (j % n)) n) refl))

  square-on : k.mode ≡ 3 → 2 ≤ n → (j : ℕ) → tick chip (at chip k n (j % n)) ≡ at chip k n (suc j % n)
  square-on mode least j =
      count_by (j % n) (eqb (suc (j % n)) n || eqb (suc (j % n)) (high_ticks n)) (eqb (suc (j % n)) (high_ticks n))
      (ap (λ (x : ℕ). reloads x n (suc (j % n))) mode)
      (ap (λ (x : ℕ). begins_low x n (suc (j % n))) mode)
      ∙ ap (at chip k n)
      (square-next (j % n) (eqb (suc (j % n)) n) (eqb (suc (j % n)) (high_ticks n)) refl refl least
      ∙ sym (next_of n j least (eqb (suc (j % n)) n) refl))

  pub next_place : (m : ChannelMode) → Next m
  next_place =
      every-mode Next
      (λ mode least j. down-next j 0 mode refl refl)
      (λ mode least j. down-next j 1 mode refl refl)
      (λ mode least j. rate-next mode least j)
      (λ mode least j. square-on mode least j)
      (λ mode least j. down-next j 4 mode refl refl)
      (λ mode least j. down-next j 5 mode refl refl)

pub first-place : (n : ℕ) (m : ChannelMode) → place_of (does_retrigger m) n 0 ≡ 0
first-place n = every-mode (λ (m : ChannelMode). place_of (does_retrigger m) n 0 ≡ 0) refl refl (zero-mod n) (zero-mod n) refl refl
