-- M2 in step with the sheets' counter: the tick that loads, every tick that counts, and the one that loads again, whatever count has been written by then. Assumes
-- nothing.
use Prim.Native.Nat.{ℕ, suc, ◌-◌, ◌<◌, ◌≤◌}
use mathlib.Core.Bool.{Bool, true, false}
use mathlib.Core.Path.{◌≡◌, refl, sym, ap, ◌∙◌}
use native.Mathlib.Nat.{zero-mod, sub-zero, mod-eq_of_lt}
use native.Mathlib.Omega.{arith}
use Rattle.numbers.specs.Radix.{radix_counts}
use Rattle.channel.specs.declared.Channel.{Channel}
use Rattle.channel.specs.declared.ChannelMode.TheVariants.{RateGenerator}
use Rattle.channel.specs.declared.LoadType.TheVariants.{SubsequentLoad}
use Rattle.channel.specs.declared.PitType.{PitType}
use Rattle.channel.specs.Queries.{does_retrigger}
use Rattle.tick.specs.declared.due.Kind.TheVariants.{Load}
use Rattle.tick.specs.Due.{runs, due}
use Rattle.tick.specs.Kept.{TickKeeps}
use Rattle.tick.specs.Tick.{never_loaded, tick}
use Rattle.tick.proofs.Keeps as kept
use Rattle.sheet.specs.Ticking.{held, rate_value}
use Rattle.agreement.specs.Gating.{underway}
use Rattle.agreement.proofs.Rate as by-rate
use Rattle.agreement.proofs.TickLoads.{tick-loads, Sent, reload-sent}
use Rattle.agreement.proofs.Tracking.{core_of, Rate, rate, paused, Standing, Arrived}

module _ (model : PitType) (c : Channel) (mode : c.control.mode ≡ RateGenerator) (complete : c.load.load_type ≡ SubsequentLoad) where
  keeps : TickKeeps c (tick model c)
  keeps = kept.tick-keeps model c

  radix : Bool
  radix = c.control.bcd_mode

  mode-then : (tick model c).control.mode ≡ RateGenerator
  mode-then = rw keeps.control-kept mode

  module _ (n : ℕ) (least : 2 ≤ n) (most : n ≤ radix_counts c.control.bcd_mode) where
    -- where the next tick leaves the channel
    there : (j : ℕ) → j < n → by-rate.RateAt c.control.bcd_mode (rate_value n j) (tick model c) → (gate : Bool) → c.pins.gate ≡ gate
        → Standing model (core_of (tick model c)) n j
    there j inside now true level =
        rate
        (record {
          rate = mode-then;
          in-period = inside;
          has_value = rw keeps.control-kept now.rate-value;
          level = now.rate-level;
          counts = now.still-counting;
          gate-high = keeps.gate-kept ∙ level;
        })
    there j inside now false level =
        paused
        (record {
          repeats = ap does_retrigger mode-then;
          in-period = inside;
          has_value = rw (mode-then, keeps.control-kept) now.rate-value;
          holds = ap underway now.still-counting;
          gate-low = keeps.gate-kept ∙ level;
        })

    arrived : (j : ℕ) → j < n → by-rate.RateAt c.control.bcd_mode (rate_value n j) (tick model c) → Arrived model (tick model c) n j
    arrived j inside now =
        record {
          counts =
              record {
                complete = keeps.load-type-kept ∙ complete;
                at_least = rw mode-then least;
                at_most = rw (mode-then, keeps.control-kept) most;
                there = there j inside now c.pins.gate refl;
              };
          shows-output = rw mode-then now.rate-level;
          shows-value = rw (mode-then, keeps.control-kept) now.rate-value;
        }

    first : rate_value n 0 ≡ n
    first = rw (zero-mod n) (sub-zero n)

    pub loads-rate : due c ≡ Load → c.load.reload_value ≡ held c.control.bcd_mode n → Arrived model (tick model c) n 0
    loads-rate is-due written =
        arrived 0 (omega arith)
        (rw first
        (by-rate.rate-loaded c.control.bcd_mode n _ c (tick model c) least
        (tick-loads c (by-rate.rate-may c.control.bcd_mode n c least most mode written) model is-due)
        (rw mode refl)
        mode
        written))

    -- a tick of a channel that stands at tick j
    module _ (j : ℕ) (now : Rate (core_of c) n j) where
      here : by-rate.RateAt c.control.bcd_mode (rate_value n j) c
      here = record { rate-value = now.has_value; rate-level = now.level; still-counting = now.counts }

      place : rate_value n j ≡ n - j
      place = ap (λ (x : ℕ). n - x) (mod-eq_of_lt now.in-period)

      below : rate_value n j ≤ radix_counts c.control.bcd_mode
      below = rw place (omega arith)

      running : runs c ≡ true
      running = rw (mode, now.gate-high) refl

      pub counts-rate : suc j < n → Arrived model (tick model c) n (suc j)
      counts-rate on =
          let other : rate_value n j ≡ 1 → ⊥ = λ one. (let q : n - j ≡ 1 = sym place ∙ one in omega arith) in
          arrived (suc j) on
          (rw (by-rate.next_place n j least other)
          (by-rate.rate-counts model c.control.bcd_mode (rate_value n j) c mode running here below refl (rw place (omega arith)) other))

      -- S8: the last tick of a period, with a count of 1 written
      pub rate-sent : suc j ≡ n → never_loaded c ≡ true → Sent (tick model c)
      rate-sent last never =
          reload-sent model c never (by-rate.rate-due model c.control.bcd_mode (rate_value n j) c mode running here below (place ∙ omega arith))

      pub reloads-rate : suc j ≡ n → (m : ℕ) → 2 ≤ m → m ≤ radix_counts c.control.bcd_mode → c.load.reload_value ≡ held c.control.bcd_mode m
          → by-rate.RateAt c.control.bcd_mode m (tick model c)
      reloads-rate last m from-two top written =
          by-rate.rate-reloads model c.control.bcd_mode (rate_value n j) c mode running here below m from-two top written (place ∙ omega arith)

  -- .. the count m that is written then
  pub begins-rate : (m : ℕ) → 2 ≤ m → m ≤ radix_counts c.control.bcd_mode → by-rate.RateAt c.control.bcd_mode m (tick model c)
      → Arrived model (tick model c) m 0
  begins-rate m from-two top now = arrived m from-two top 0 (omega arith) (rw (first m from-two top) now)
