-- What n counts from v come to. In binary (v - n) mod 65,536; in BCD from good digits the packed digits of (v - n) mod 10,000, where
-- v is what the digits stand for. First for the step alone, then for a channel that counts n times. Assumes nothing.
use Rattle.std.proofs.Common.{◌≡◌, ℕ, zero, suc, ◌<◌, true, false, sym, refl, ap, ◌∙◌, add-one, arith}
use Rattle.numbers.specs.Modulo.{minus_mod}
use Rattle.numbers.specs.Digits.{GoodDigits, weight, packed}
use Rattle.numbers.specs.Times.{times}
use Rattle.numbers.proofs.Modulo.{below, none, again}
use Rattle.numbers.proofs.Digits.{weight-below, packed-weight, weight-packed, packed-below, good-packed}
use Rattle.channel.specs.declared.Channel.{Channel}
use Rattle.channel.specs.Shared.{put_element}
use Rattle.count.specs.Step.{binary_step, decimal_step, step_in}
use Rattle.count.specs.Count.{count}
use Rattle.count.proofs.Weight.{decimal-one}

pub binary-times : (n v : ℕ) → v < 65536 → times n binary_step v ≡ minus_mod 65536 v n
binary-times zero v h = sym (none 65536 v h)
binary-times (suc n) v h = rw (binary-times n v h, ← add-one n) (again 65536 v n 1 (omega arith))

pub decimal-times : (n v : ℕ) → v < 65536 → GoodDigits v → times n decimal_step v ≡ packed (minus_mod 10000 (weight v) n)
decimal-times zero v h g = rw (none 10000 (weight v) (weight-below v g)) (sym (packed-weight v h g))
decimal-times (suc n) v h g =
    let x : ℕ = minus_mod 10000 (weight v) n in
    let w : weight (packed x) ≡ x = weight-packed x (below 10000 (weight v) n (omega arith)) in
    rw
    (decimal-times n v h g, decimal-one (packed x) (packed-below x) (good-packed x), w, ← add-one n)
    (ap packed (again 10000 (weight v) n 1 (omega arith)))

-- a count leaves the control byte's part alone, so every count is in one radix
pub control-kept : (n : ℕ) (c : Channel) → (times n count c).control ≡ c.control
unfolding count put_element
control-kept zero c = refl
control-kept (suc n) c = control-kept n c

-- .. and what the status shows and holds
pub status-kept : (n : ℕ) (c : Channel) → (times n count c).status ≡ c.status
unfolding count put_element
status-kept zero c = refl
status-kept (suc n) c = status-kept n c

pub element-after : (n : ℕ) (c : Channel)
    → (times n count c).counter.counting_element ≡ times n (step_in c.control.bcd_mode) c.counter.counting_element
unfolding count put_element
element-after zero c = refl
element-after (suc n) c = simp (control-kept n c, element-after n c)

pub binary-after : (n : ℕ) (c : Channel) → c.control.bcd_mode ≡ false → c.counter.counting_element < 65536
    → (times n count c).counter.counting_element ≡ minus_mod 65536 c.counter.counting_element n
binary-after n c e h = element-after n c ∙ rw e (binary-times n c.counter.counting_element h)

pub decimal-after : (n : ℕ) (c : Channel) → c.control.bcd_mode ≡ true → c.counter.counting_element < 65536
    → GoodDigits c.counter.counting_element
    → (times n count c).counter.counting_element ≡ packed (minus_mod 10000 (weight c.counter.counting_element) n)
decimal-after n c e h g = element-after n c ∙ rw e (decimal-times n c.counter.counting_element h g)
