-- Many ticks at once: `skip` is that many ticks, for as many as `quiet` says, and not one of them moves the output. The element is one of 16 bits.
-- Three laws make the induction (`Next`): a quiet tick is a skip of one, it leaves one quiet tick fewer or no end of them, and a skip of k + 1 is a
-- skip of k after it. Assumes nothing.
use Prim.Native.Nat.{ℕ, zero, suc, ◌*◌, ◌<◌, ◌≤◌}
use mathlib.Core.Path.{◌≡◌, refl, sym, ap, ◌∙◌}
use native.Mathlib.Nat.{zero-mul}
use native.Mathlib.Numerals.{add-one}
use native.Mathlib.Omega.{arith}
use Rattle.numbers.specs.Times.{times}
use Rattle.numbers.proofs.Times.{times-add}
use Rattle.channel.specs.declared.Channel.{Channel}
use Rattle.channel.specs.declared.PitType.{PitType}
use Rattle.count.proofs.Many.{counted_by, counted-at-once}
use Rattle.tick.specs.declared.due.Kind.{Kind}
use Rattle.tick.specs.declared.due.Kind.TheVariants.{Idle, Deferred, Load, Reload, Count}
use Rattle.tick.specs.Due.{due}
use Rattle.tick.specs.Taken.{takes}
use Rattle.tick.specs.Tick.{aged_by, tick}
use Rattle.quiet.specs.Inner.{quiet, skip_by, skip}
use Rattle.quiet.proofs.Ages.{aged-none}
use Rattle.quiet.proofs.Quietly.{Next, quiet-as, next-idle, next-load}
use Rattle.quiet.proofs.QuietCount.{next-count}

none-by : (k : Kind) (c : Channel) → skip_by k 0 c ≡ c
none-by Idle c = aged-none c
none-by Deferred c = refl
none-by Load c = refl
none-by Reload c = refl
none-by Count c = rw (zero-mul (takes c)) (aged-none c)

pub skip-none : (c : Channel) → skip 0 c ≡ c
unfolding skip
skip-none c = none-by (due c) c

next-by : (k : Kind) (model : PitType) (c : Channel) → c.counter.counting_element < 65536 → due c ≡ k → 0 < quiet c
    → (d : Channel) × Next model c d
next-by Idle model c h e q = (aged_by 1 c, next-idle model c h e q)
next-by Deferred model c h e q = absurd (omega (arith, quiet-as Deferred c e))
next-by Load model c h e q = (c, next-load model c h e q)
next-by Reload model c h e q = absurd (omega (arith, quiet-as Reload c e))
next-by Count model c h e q = (aged_by 1 (counted_by (takes c) c), next-count model c h e q)

pub skip-is-ticks : (model : PitType) (k : ℕ) (c : Channel) → c.counter.counting_element < 65536 → k ≤ quiet c
    → skip k c ≡ times k (tick model) c
skip-is-ticks model zero c h q = skip-none c
skip-is-ticks model (suc k) c h q =
    let p : (d : Channel) × Next model c d = next-by (due c) model c h refl (omega arith) in
    p.1.more k
    ∙ skip-is-ticks model k p.0 p.1.fits (omega (arith, p.1.fewer))
    ∙ ap (λ (d : Channel). times k (tick model) d) (sym p.1.one)
    ∙ sym (times-add k 1 (tick model) c)
    ∙ ap (λ (n : ℕ). times n (tick model) c) (add-one k)

pins-by : (k : Kind) (n : ℕ) (c : Channel) → (skip_by k n c).pins ≡ c.pins
unfolding aged_by
pins-by Idle n c = refl
pins-by Deferred n c = refl
pins-by Load n c = refl
pins-by Reload n c = refl
pins-by Count n c = ap (λ (d : Channel). d.pins) (counted-at-once (n * takes c) c)

pub skip-output : (k : ℕ) (c : Channel) → (skip k c).pins.output ≡ c.pins.output
unfolding skip
skip-output k c = ap (λ p. p.output) (pins-by (due c) k c)

-- not one of them moves the output
pub quiet-output : (model : PitType) (k : ℕ) (c : Channel) → c.counter.counting_element < 65536 → k ≤ quiet c
    → (j : ℕ) → j ≤ k → (times j (tick model) c).pins.output ≡ c.pins.output
quiet-output model k c h q j l =
    ap (λ (d : Channel). d.pins.output) (sym (skip-is-ticks model j c h (omega arith))) ∙ skip-output j c
