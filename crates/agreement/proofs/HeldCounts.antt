-- N1, N2: the record's count takes one from the value that the counter holds, in both radixes, round the end too; and it leaves the rest of the
-- record alone but for the latch and `ticked`. Assumes nothing.
use Prim.Native.Nat.{ℕ, zero, suc, ◌-◌, ◌%◌, ◌≤◌, ◌<◌}
use mathlib.Core.Bool.{Bool, true, false}
use mathlib.Core.Path.{◌≡◌, refl, ap, ◌∙◌}
use native.Mathlib.Numerals.{add-one}
use native.Mathlib.Omega.{arith}
use Rattle.numbers.specs.Modulo.{minus_mod}
use Rattle.numbers.specs.Digits.{packed}
use Rattle.numbers.specs.Times.{times}
use Rattle.numbers.specs.Radix.{radix_counts}
use Rattle.numbers.proofs.Modulo.{again}
use Rattle.numbers.proofs.Digits.{weight-packed, packed-below, good-packed}
use Rattle.channel.specs.declared.Channel.{Channel}
use Rattle.count.specs.Step.{step_in}
use Rattle.count.specs.Count.{count}
use Rattle.count.proofs.Weight.{decimal-one}
use Rattle.count.proofs.Repeated.{element-after}
use Rattle.count.proofs.Many.{counted-at-once}
use Rattle.sheet.specs.Ticking.{held}

pub values-above : (bcd : Bool) → 0 < radix_counts bcd
values-above false = omega arith
values-above true = omega arith

-- one step of a value as the counter holds it
pub held-step : (bcd : Bool) (v : ℕ) → step_in bcd (held bcd v) ≡ held bcd (minus_mod (radix_counts bcd) v 1)
held-step false v = omega arith
held-step true v =
    decimal-one (packed (v % 10000)) (packed-below (v % 10000)) (good-packed (v % 10000))
    ∙ rw (weight-packed (v % 10000) (omega arith)) (ap packed (omega arith))

-- a value and the one that it goes round to are held alike
pub held-round : (bcd : Bool) (v : ℕ) → held bcd v ≡ held bcd (minus_mod (radix_counts bcd) v 0)
held-round false v = omega arith
held-round true v = ap packed (omega arith)

pub held_steps : (k : ℕ) (bcd : Bool) (v : ℕ) → times k (step_in bcd) (held bcd v) ≡ held bcd (minus_mod (radix_counts bcd) v k)
held_steps zero bcd v = held-round bcd v
held_steps (suc k) bcd v =
    rw (held_steps k bcd v, held-step bcd _, ← add-one k) (ap (held bcd) (again (radix_counts bcd) v k 1 (values-above bcd)))

-- where it does not go round, it is the difference
pub held-minus : (bcd : Bool) (v k : ℕ) → k ≤ v → held bcd (minus_mod (radix_counts bcd) v k) ≡ held bcd (v - k)
held-minus false v k h = omega arith
held-minus true v k h = ap packed (omega arith)

-- k counts of a channel that holds v
pub counts-round : (bcd : Bool) (v k : ℕ) (c : Channel) → c.control.bcd_mode ≡ bcd → c.counter.counting_element ≡ held bcd v
    → (times k count c).counter.counting_element ≡ held bcd (minus_mod (radix_counts bcd) v k)
counts-round bcd v k c radix e = element-after k c ∙ rw (radix, e) (held_steps k bcd v)

pub counts-held : (c : Channel) (v k : ℕ) → k ≤ v → v ≤ radix_counts c.control.bcd_mode
    → c.counter.counting_element ≡ held c.control.bcd_mode v
    → (times k count c).counter.counting_element ≡ held c.control.bcd_mode (v - k)
counts-held c v k h most e = counts-round c.control.bcd_mode v k c refl e ∙ held-minus c.control.bcd_mode v k h

pub counts-down : (c : Channel) (v : ℕ) → c.counter.counting_element ≡ held c.control.bcd_mode v
    → (times 1 count c).counter.counting_element ≡ held c.control.bcd_mode (minus_mod (radix_counts c.control.bcd_mode) v 1)
counts-down c v e = counts-round c.control.bcd_mode v 1 c refl e

-- what counts leave alone, besides the control byte's part (`control-kept` of crates/count)
module _ (k : ℕ) (c : Channel) where
  pub counts-reloading : (times k count c).reloading ≡ c.reloading
  counts-reloading = ap (λ (d : Channel). d.reloading) (counted-at-once k c)

  pub counts-load : (times k count c).load ≡ c.load
  counts-load = ap (λ (d : Channel). d.load) (counted-at-once k c)

  pub counts-pins : (times k count c).pins ≡ c.pins
  counts-pins = ap (λ (d : Channel). d.pins) (counted-at-once k c)

  pub counts-state : (times k count c).counter.channel_state ≡ c.counter.channel_state
  counts-state = ap (λ (d : Channel). d.counter.channel_state) (counted-at-once k c)
