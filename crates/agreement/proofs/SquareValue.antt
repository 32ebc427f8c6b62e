-- M3: the sheets' value s ticks into a half, and how it moves: what a tick takes of it, and how a half ends. Numbers alone: even counts on both chips, odd ones on
-- the 8253, odd ones on the 8254. Assumes nothing.
use Prim.Native.Nat.{ℕ, zero, suc, ◌+◌, ◌-◌, ◌*◌, ◌%◌, ◌<◌, ◌≤◌}
use mathlib.Core.Bool.{Bool, true, false, cond, ◌&&◌}
use mathlib.Core.Logic.{◌⊎◌, inl, inr, ⊎_elim}
use mathlib.Core.Path.{◌≡◌, refl, sym, ◌∙◌}
use native.Mathlib.Nat.{le_refl}
use native.Mathlib.Omega.{arith}
use lib.Dec.{eqb, eqb-suc-zero}
use borrow.Author.Tests.{eq-eqb, ne_eqb}
use Rattle.channel.specs.declared.PitType.{PitType}
use Rattle.channel.specs.declared.PitType.TheVariants.{Model8253, Model8254}
use Rattle.tick.specs.Taken.{square_takes}
use Rattle.tick.specs.Tick.{lingers_on}
use Rattle.sheet.specs.Ticking.{Chip, chip8253, odd_value}
use Rattle.agreement.specs.Words.{sheet_chip}
use Rattle.agreement.proofs.SquarePlace.{half_ticks}

-- the value s ticks into a half: the sheet's `square_value`, by half and age
abbrev pub half_value : Chip → ℕ → Bool → ℕ → ℕ
half_value chip n high s = cond (eqb (n % 2) 0) (n - 2 * s) (odd_value chip n high s)

-- what a load puts into the counter: the count, on the 8254 the even one
abbrev pub loaded_count : PitType → ℕ → ℕ
loaded_count Model8253 n = n
loaded_count Model8254 n = n - n % 2

-- M3-8254: whether one tick passes after zero
abbrev pub waits_at_zero : PitType → ℕ → Bool → Bool
waits_at_zero model n high = lingers_on model && (high && eqb (n % 2) 1)

-- how a tick inside a half takes v to w: it counts and something is left, or it counts to zero and waits there
pub data Moves (model : PitType) (n : ℕ) (high : Bool) (v w : ℕ) : Type 0 where
  counts : (t : ℕ) → square_takes high v ≡ t → w + t ≡ v → 0 < t → 0 < w → Moves model n high v w
  stops : square_takes high v ≡ v → 0 < v → waits_at_zero model n high ≡ true → w ≡ 0 → Moves model n high v w

-- how the last tick of a half finds the value: it counts to zero and does not wait, or it has waited
pub data Ends (model : PitType) (n : ℕ) (high : Bool) (v : ℕ) : Type 0 where
  at_once : square_takes high v ≡ v → 0 < v → waits_at_zero model n high ≡ false → Ends model n high v
  waited : v ≡ 0 → Ends model n high v

-- even or odd
parity : (n : ℕ) → (n % 2 ≡ 0) ⊎ (n % 2 ≡ 1)
parity n = go (n % 2) refl
  where
    go : (r : ℕ) → n % 2 ≡ r → (n % 2 ≡ 0) ⊎ (n % 2 ≡ 1)
    go zero e = inl e
    go (suc zero) e = inr e
    go (suc (suc r)) e = absurd (omega arith)

-- what a tick takes
takes-even : (high : Bool) (v : ℕ) → v % 2 ≡ 0 → square_takes high v ≡ 2
takes-even high v e = simp (eq-eqb (v % 2) 0 e)

takes-odd : (high : Bool) (v : ℕ) → v % 2 ≡ 1 → square_takes high v ≡ cond high 1 3
takes-odd high v e = simp (ne_eqb (v % 2) 0 (omega arith))

-- two taken, with some left
two : (model : PitType) (n : ℕ) (high : Bool) (v w : ℕ) → v % 2 ≡ 0 → w + 2 ≡ v → 0 < w → Moves model n high v w
two model n high v w even e left = counts 2 (takes-even high v even) e (omega arith) left

-- the last two
last-two : (model : PitType) (n : ℕ) (high : Bool) (v : ℕ) → v ≡ 2 → waits_at_zero model n high ≡ false → Ends model n high v
last-two model n high v e now = at_once (rw e refl) (omega arith) now

pub value-even : (chip : Chip) (n : ℕ) (high : Bool) (s : ℕ) → n % 2 ≡ 0 → half_value chip n high s ≡ n - 2 * s
value-even chip n high s even = simp (eq-eqb (n % 2) 0 even)

pub value-odd : (chip : Chip) (n : ℕ) (high : Bool) (s : ℕ) → n % 2 ≡ 1 → half_value chip n high s ≡ odd_value chip n high s
value-odd chip n high s odd = simp (ne_eqb (n % 2) 0 (omega arith))

-- the 8253's odd count after its first tick
later-high : (n r : ℕ) → odd_value chip8253 n true (suc r) ≡ n - 1 - 2 * r
later-high n r = simp (eqb-suc-zero r) (omega arith)

later-low : (n r : ℕ) → odd_value chip8253 n false (suc r) ≡ n - 3 - 2 * r
later-low n r = simp (eqb-suc-zero r) (omega arith)

-- even counts never wait at zero
never-waits : (model : PitType) (n : ℕ) (high : Bool) → n % 2 ≡ 0 → waits_at_zero model n high ≡ false
never-waits Model8253 n high even = refl
never-waits Model8254 n true even = ne_eqb (n % 2) 1 (omega arith)
never-waits Model8254 n false even = refl

even-half : (high : Bool) (n : ℕ) → n % 2 ≡ 0 → 2 * half_ticks high n ≡ n
even-half true n even = omega arith
even-half false n even = omega arith

module _ (n : ℕ) (low : 2 ≤ n) where
  -- even counts, on both chips: both halves last n / 2 ticks, and each tick takes 2
  even-moves : (model : PitType) (high : Bool) (s : ℕ) → n % 2 ≡ 0 → suc s < half_ticks high n
      → Moves model n high (n - 2 * s) (n - 2 * suc s)
  even-moves model high s even inside =
      let half : 2 * half_ticks high n ≡ n = even-half high n even in
      two model n high (n - 2 * s) (n - 2 * suc s) (omega arith) (omega arith) (omega arith)

  even-ends : (model : PitType) (high : Bool) (s : ℕ) → n % 2 ≡ 0 → suc s ≡ half_ticks high n → Ends model n high (n - 2 * s)
  even-ends model high s even last =
      let half : 2 * half_ticks high n ≡ n = even-half high n even in
      last-two model n high (n - 2 * s) (omega arith) (never-waits model n high even)

  -- odd counts on the 8253: n itself first, of which 1 or 3 is taken, then 2 each tick
  odd-moves-8253 : (high : Bool) (s : ℕ) → n % 2 ≡ 1 → suc s < half_ticks high n
      → Moves Model8253 n high (odd_value chip8253 n high s) (odd_value chip8253 n high (suc s))
  odd-moves-8253 true zero odd inside = counts 1 (takes-odd true n odd) (omega arith) (omega arith) (omega arith)
  odd-moves-8253 false zero odd inside = counts 3 (takes-odd false n odd) (omega arith) (omega arith) (omega arith)
  odd-moves-8253 true (suc r) odd inside =
      rw (later-high n r, later-high n (suc r))
      (two Model8253 n true (n - 1 - 2 * r) (n - 1 - 2 * suc r) (omega arith) (omega arith) (omega arith))
  odd-moves-8253 false (suc r) odd inside =
      rw (later-low n r, later-low n (suc r))
      (two Model8253 n false (n - 3 - 2 * r) (n - 3 - 2 * suc r) (omega arith) (omega arith) (omega arith))

  odd-ends-8253 : (high : Bool) (s : ℕ) → n % 2 ≡ 1 → suc s ≡ half_ticks high n → Ends Model8253 n high (odd_value chip8253 n high s)
  odd-ends-8253 true zero odd last = absurd (omega arith)
  odd-ends-8253 false zero odd last =
      let three : n ≡ 3 = omega arith in
      at_once (takes-odd false n odd ∙ sym three) (omega arith) refl
  odd-ends-8253 true (suc r) odd last = rw (later-high n r) (last-two Model8253 n true (n - 1 - 2 * r) (omega arith) refl)
  odd-ends-8253 false (suc r) odd last = rw (later-low n r) (last-two Model8253 n false (n - 3 - 2 * r) (omega arith) refl)

  -- odd counts on the 8254: the even one below, 2 each tick, and at the end of the high half one tick at zero
  odd-moves-8254 : (high : Bool) (s w : ℕ) → n % 2 ≡ 1 → suc s < half_ticks high n → n - 1 - 2 * suc s ≡ w
      → Moves Model8254 n high (n - 1 - 2 * s) w
  odd-moves-8254 true s zero odd inside e =
      let v : n - 1 - 2 * s ≡ 2 = omega arith in
      stops (rw v refl) (omega arith) (eq-eqb (n % 2) 1 odd) refl
  odd-moves-8254 false s zero odd inside e = absurd (omega arith)
  odd-moves-8254 high s (suc w) odd inside e = two Model8254 n high (n - 1 - 2 * s) (suc w) (omega arith) (omega arith) (omega arith)

  odd-ends-8254 : (high : Bool) (s : ℕ) → n % 2 ≡ 1 → suc s ≡ half_ticks high n → Ends Model8254 n high (n - 1 - 2 * s)
  odd-ends-8254 true s odd last = waited (omega arith)
  odd-ends-8254 false s odd last = last-two Model8254 n false (n - 1 - 2 * s) (omega arith) refl

  -- one chip or the other
  odd-moves : (model : PitType) (high : Bool) (s : ℕ) → n % 2 ≡ 1 → suc s < half_ticks high n
      → Moves model n high (odd_value (sheet_chip model) n high s) (odd_value (sheet_chip model) n high (suc s))
  odd-moves Model8253 high s odd inside = odd-moves-8253 high s odd inside
  odd-moves Model8254 high s odd inside = odd-moves-8254 high s (n - 1 - 2 * suc s) odd inside refl

  odd-ends : (model : PitType) (high : Bool) (s : ℕ) → n % 2 ≡ 1 → suc s ≡ half_ticks high n
      → Ends model n high (odd_value (sheet_chip model) n high s)
  odd-ends Model8253 high s odd last = odd-ends-8253 high s odd last
  odd-ends Model8254 high s odd last = odd-ends-8254 high s odd last

  -- even or odd
  module _ (model : PitType) (high : Bool) (s : ℕ) where
    pub moves : suc s < half_ticks high n
        → Moves model n high (half_value (sheet_chip model) n high s) (half_value (sheet_chip model) n high (suc s))
    moves inside =
        ⊎_elim
        (λ (even : n % 2 ≡ 0). rw (value-even (sheet_chip model) n high s even, value-even (sheet_chip model) n high (suc s) even) (even-moves model high s even inside))
        (λ (odd : n % 2 ≡ 1). rw (value-odd (sheet_chip model) n high s odd, value-odd (sheet_chip model) n high (suc s) odd) (odd-moves model high s odd inside))
        (parity n)

    pub ends : suc s ≡ half_ticks high n → Ends model n high (half_value (sheet_chip model) n high s)
    ends last =
        ⊎_elim
        (λ (even : n % 2 ≡ 0). rw (value-even (sheet_chip model) n high s even) (even-ends model high s even last))
        (λ (odd : n % 2 ≡ 1). rw (value-odd (sheet_chip model) n high s odd) (odd-ends model high s odd last))
        (parity n)

pub loaded-above : (model : PitType) (n : ℕ) → 2 ≤ n → 0 < loaded_count model n
loaded-above Model8253 n low = omega arith
loaded-above Model8254 n low = omega arith

-- a half begins with what a load puts into the counter ..
pub begins : (model : PitType) (n : ℕ) (high : Bool) → half_value (sheet_chip model) n high 0 ≡ loaded_count model n
begins model n high =
    ⊎_elim
    (λ (even : n % 2 ≡ 0). value-even (sheet_chip model) n high 0 even ∙ even-begins model even)
    (λ (odd : n % 2 ≡ 1). value-odd (sheet_chip model) n high 0 odd ∙ odd-begins model odd)
    (parity n)
  where
    even-begins : (model : PitType) → n % 2 ≡ 0 → n - 2 * 0 ≡ loaded_count model n
    even-begins Model8253 even = omega arith
    even-begins Model8254 even = omega arith

    odd-begins : (model : PitType) → n % 2 ≡ 1 → odd_value (sheet_chip model) n high 0 ≡ loaded_count model n
    odd-begins Model8253 odd = refl
    odd-begins Model8254 odd = omega arith

-- .. and nothing in it is larger
pub at-most-loaded : (model : PitType) (n : ℕ) (high : Bool) (s : ℕ) → half_value (sheet_chip model) n high s ≤ loaded_count model n
at-most-loaded model n high s =
    ⊎_elim
    (λ (even : n % 2 ≡ 0). rw (value-even (sheet_chip model) n high s even) (even-most model even))
    (λ (odd : n % 2 ≡ 1). rw (value-odd (sheet_chip model) n high s odd) (odd-most model high s odd))
    (parity n)
  where
    even-most : (model : PitType) → n % 2 ≡ 0 → n - 2 * s ≤ loaded_count model n
    even-most Model8253 even = omega arith
    even-most Model8254 even = omega arith

    odd-most : (model : PitType) (high : Bool) (s : ℕ) → n % 2 ≡ 1 → odd_value (sheet_chip model) n high s ≤ loaded_count model n
    odd-most Model8253 high zero odd = le_refl n
    odd-most Model8253 true (suc r) odd = rw (later-high n r) (omega arith)
    odd-most Model8253 false (suc r) odd = rw (later-low n r) (omega arith)
    odd-most Model8254 high s odd = omega arith

pub loaded-at-most : (model : PitType) (n : ℕ) → loaded_count model n ≤ n
loaded-at-most Model8253 n = le_refl n
loaded-at-most Model8254 n = omega arith
