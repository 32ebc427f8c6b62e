-- M3: where in a period a tick stands, as a half and the ticks since that half began; and the next tick's place. Numbers alone. Assumes nothing.
use Prim.Native.Nat.{ℕ, suc, ◌+◌, ◌-◌, ◌%◌, ◌<◌, ◌≤◌}
use mathlib.Core.Bool.{Bool, true, false}
use mathlib.Core.Path.{◌≡◌, ◌∙◌}
use native.Mathlib.Nat.{suc-mod, mod-eq_of_lt}
use native.Mathlib.Omega.{arith}
use borrow.Author.Tests.{lt-ltb, le-ltb}
use Rattle.sheet.specs.Ticking.{high_ticks, square_high, since_change}

-- how many ticks a half lasts; true is the one with the output high
abbrev pub half_ticks : Bool → ℕ → ℕ
half_ticks true n = high_ticks n
half_ticks false n = n - high_ticks n

-- the tick of a period that stands s ticks into a half
abbrev pub place : Bool → ℕ → ℕ → ℕ
place true n s = s
place false n s = high_ticks n + s

-- j ticks after the load the half `high` is s ticks old
pub record Stands (n j : ℕ) (high : Bool) (s : ℕ) : Type 0 where
  pub in-period : j % n ≡ place high n s
  pub in-half : s < half_ticks high n

-- so it is what the sheet calls high, and its age is what the sheet calls the ticks since the last change
pub high-there : (high : Bool) (n j s : ℕ) → Stands n j high s → square_high n j ≡ high
high-there true n j s h = rw h.in-period (lt-ltb s (high_ticks n) h.in-half)
high-there false n j s h = rw h.in-period (le-ltb (high_ticks n + s) (high_ticks n) (omega arith))

pub since-there : (high : Bool) (n j s : ℕ) → Stands n j high s → since_change n j ≡ s
since-there true n j s h = simp (high-there true n j s h) h.in-period
since-there false n j s h = simp (high-there false n j s h) (rw h.in-period (omega arith))

module _ (n j : ℕ) (low : 2 ≤ n) where
  -- the load stands at the begin of the high half
  pub stands-first : Stands n 0 true 0
  stands-first = record { in-period = mod-eq_of_lt (omega arith); in-half = omega arith }

  goes-on : (p : ℕ) → j % n ≡ p → suc p < n → suc j % n ≡ suc p
  goes-on p e h = suc-mod j n ∙ rw e (mod-eq_of_lt h)

  -- a tick inside a half makes it older
  pub stands_on : (high : Bool) (s : ℕ) → Stands n j high s → suc s < half_ticks high n → Stands n (suc j) high (suc s)
  stands_on true s h inside = record { in-period = goes-on s h.in-period (omega arith); in-half = inside }
  stands_on false s h inside =
      record { in-period = goes-on (high_ticks n + s) h.in-period (omega arith) ∙ omega arith; in-half = inside }
