-- M2: "Period N": from N down to 1, and again; the output is low for the one tick at which the element is 1. Assumes nothing.
use Prim.Native.Nat.{ℕ, suc, ◌-◌, ◌%◌, ◌<◌, ◌≤◌}
use mathlib.Core.Bool.{Bool, true, false, not}
use mathlib.Core.Path.{◌≡◌, refl, sym, ap, ◌∙◌}
use native.Mathlib.Nat.{suc-mod, mod-lt, mod-eq_of_lt}
use native.Mathlib.Omega.{arith}
use lib.Dec.{eqb}
use borrow.Author.Tests.{eq-eqb, ne_eqb}
use Rattle.numbers.specs.Radix.{radix_counts}
use Rattle.channel.specs.declared.Channel.{Channel}
use Rattle.channel.specs.declared.ChannelMode.{ChannelMode}
use Rattle.channel.specs.declared.ChannelMode.TheVariants.{RateGenerator, SquareWaveGenerator}
use Rattle.channel.specs.declared.ChannelState.TheVariants.{Counting}
use Rattle.channel.specs.declared.PitType.{PitType}
use Rattle.channel.specs.declared.ReloadFlag.TheVariants.{Normal}
use Rattle.count.specs.Count.{count}
use Rattle.load.proofs.Value.{value-whole}
use Rattle.sheet.specs.Ticking.{held, rate_value}
use Rattle.tick.specs.declared.due.Kind.TheVariants.{Reload}
use Rattle.tick.specs.Due.{runs, reloads_from, due}
use Rattle.tick.specs.Tick.{never_loaded, tick}
use Rattle.agreement.specs.Gating.{goes_on}
use Rattle.agreement.proofs.HeldCounts.{held-minus, counts-round}
use Rattle.agreement.proofs.HeldMarks.{held_one}
use Rattle.agreement.proofs.TickLoads.{LoadedAt, tick-reloads}
use Rattle.agreement.proofs.TickCounts.{CountedTo, due-count, due-reload, tick-counts}

-- the place in the period, one tick on: the next one, or the first after the last
pub next_place : (n j : ℕ) → 2 ≤ n → (rate_value n j ≡ 1 → ⊥) → rate_value n (suc j) ≡ rate_value n j - 1
next_place n j least other =
    let b : j % n < n = mod-lt j (omega arith) in
    let h : suc (j % n) < n = omega arith in
    rw (suc-mod j n, mod-eq_of_lt h) (omega arith)

-- a channel of mode 2 that counts and has the value v
pub record RateAt (bcd : Bool) (v : ℕ) (c : Channel) : Type 0 where
  pub rate-value : c.counter.counting_element ≡ held bcd v
  pub rate-level : c.pins.output ≡ not (eqb v 1)
  pub still-counting : c.counter.channel_state ≡ Counting Normal

not-square : {m : ChannelMode} → m ≡ RateGenerator → m ≡ SquareWaveGenerator → ⊥
not-square rate square = let z : ◌≡◌ {A = ℕ} 0 1 = cc in omega arith

-- what a load of n leaves, at a level that is high
pub rate-loaded : (bcd : Bool) (n : ℕ) (level : Bool) (c d : Channel) → 2 ≤ n → LoadedAt level c d → level ≡ true → c.control.mode ≡ RateGenerator
    → c.load.reload_value ≡ held bcd n → RateAt bcd n d
rate-loaded bcd n level c d least moved high mode written =
    record {
      rate-value = moved.has_value ∙ value-whole c (not-square mode) ∙ written;
      rate-level = moved.has-level ∙ high ∙ sym (ap not (ne_eqb n 1 (λ q. omega arith)));
      still-counting = moved.is-counting;
    }

-- a count of 2 or more may be loaded
pub rate-may : (bcd : Bool) (n : ℕ) (c : Channel) → 2 ≤ n → n ≤ radix_counts bcd → c.control.mode ≡ RateGenerator → c.load.reload_value ≡ held bcd n
    → never_loaded c ≡ false
rate-may bcd n c least most mode written = rw (mode, written) (held_one bcd n most ∙ ne_eqb n 1 (λ q. omega arith))

-- a tick from the value v
module _ (model : PitType) (bcd : Bool) (v : ℕ) (c : Channel) (mode : c.control.mode ≡ RateGenerator) (running : runs c ≡ true)
    (now : RateAt bcd v c) (most : v ≤ radix_counts bcd) where
  goes : goes_on c.counter.channel_state ≡ true
  goes = ap goes_on now.still-counting

  at_mark : reloads_from c.control.mode c.counter.counting_element ≡ eqb v 1
  at_mark = rw (mode, now.rate-value) (held_one bcd v most)

  pub rate-due : v ≡ 1 → due c ≡ Reload
  rate-due one = due-reload c goes running (at_mark ∙ eq-eqb v 1 one)

  pub rate-reloads : (n : ℕ) → 2 ≤ n → n ≤ radix_counts bcd → c.load.reload_value ≡ held bcd n → v ≡ 1 → RateAt bcd n (tick model c)
  rate-reloads n least at_most written one =
      let is-due : due c ≡ Reload = rate-due one in
      let may : never_loaded c ≡ false = rate-may bcd n c least at_most mode written in
      rate-loaded bcd n _ c (tick model c) least (tick-reloads c may model is-due) (rw mode refl) mode written

  -- outside mode 3 a tick takes one and ends no half
  rate-step : (v ≡ 1 → ⊥) → CountedTo (count c).counter.counting_element c (tick model c)
  rate-step other = tick-counts c goes model (due-count c goes running (at_mark ∙ ne_eqb v 1 other)) (rw mode refl) (rw mode refl)

  pub rate-counts : c.control.bcd_mode ≡ bcd → 1 ≤ v → (v ≡ 1 → ⊥) → RateAt bcd (v - 1) (tick model c)
  rate-counts radix least other =
      let e : (count c).counter.counting_element ≡ held bcd (v - 1) = counts-round bcd v 1 c radix now.rate-value ∙ held-minus bcd v 1 least in
      let step : CountedTo (held bcd (v - 1)) c (tick model c) = rw e at (rate-step other) in
      record {
        rate-value = step.has_value;
        rate-level = step.has-level ∙ rw mode (ap not (held_one bcd (v - 1) (omega arith)));
        still-counting = step.is-counting;
      }
