-- A tick leaves a channel's numbers in their fields, on either model and in every mode: it counts, or moves the load value, and its cycles in state stay at 4,294,967,295. Assumes nothing.
use Prim.Native.Nat.{ℕ, ◌+◌, ◌-◌, ◌≤◌, ◌<◌}
use mathlib.Core.Bool.{Bool, true, not}
use native.Mathlib.Omega.{arith}
use lib.Dec.{ltb}
use borrow.Author.Tests.{ltb-false}
use Rattle.numbers.specs.Times.{times}
use Rattle.channel.specs.declared.Channel.{Channel}
use Rattle.channel.specs.declared.ChannelState.TheVariants.{WaitingForLoadCycle, Counting}
use Rattle.channel.specs.declared.PitType.{PitType}
use Rattle.channel.specs.declared.ReloadFlag.TheVariants.{Normal, ReloadNextCycle}
use Rattle.channel.specs.Shared.{is_counting}
use Rattle.channel.proofs.Pick.{pick-holds, pick-knowing}
use Rattle.encoding.specs.Range.{InRange}
use Rattle.count.specs.Count.{count}
use Rattle.tick.specs.declared.due.Kind.{Kind}
use Rattle.tick.specs.declared.due.Kind.TheVariants.{Idle, Deferred, Load, Reload, Count}
use Rattle.tick.specs.Due.{due}
use Rattle.tick.specs.Taken.{takes}
use Rattle.tick.specs.Tick.{older, aged_by, idle, deferred, never_loaded, sent_back, with_armed, loaded, load_at, ends_half, lingers, half_over, counting_on, marked, after_counts, tick_by, tick}
use Rattle.ranges.proofs.Parts.{load-in-range, counter-in-range, state-in-range, output-in-range}
use Rattle.ranges.proofs.Loads.{moved-in-range}
use Rattle.ranges.proofs.Rules.{counts-in-range}

-- T1: "cycles in state go up by one a tick, and stay at 4,294,967,295"
older-fits : (ticks cycles : ℕ) → cycles < 4294967296 → older ticks cycles < 4294967296
older-fits ticks cycles fits =
    pick-knowing (λ (n : ℕ). n < 4294967296) (ltb (4294967295 - cycles) ticks) 4294967295 (cycles + ticks) (λ full. omega arith)
    (λ room. let h : ticks ≤ 4294967295 - cycles = ltb-false _ _ room in omega arith)

module _ (c : Channel) (r : InRange c) where
  aged-in-range : (ticks : ℕ) → InRange (aged_by ticks c)
  unfolding aged_by
  aged-in-range ticks = counter-in-range c r _ (older-fits ticks c.counter.cycles_in_state r.cycles) r.element

  armed-in-range : (armed : Bool) → InRange (with_armed c armed)
  unfolding with_armed
  armed-in-range armed = load-in-range c r _ r.register r.reload

module _ (c : Channel) (r : InRange c) where
  load-at-in-range : (level : Bool) → InRange (load_at level c)
  unfolding load_at sent_back loaded
  load-at-in-range level =
      pick-holds InRange (never_loaded c) (sent_back c) (loaded level c) (output-in-range _ (state-in-range c r WaitingForLoadCycle) true)
      (armed-in-range _ (output-in-range _ (moved-in-range c r) level) true)

  marked-in-range : InRange (marked c)
  unfolding marked
  marked-in-range = armed-in-range _ (output-in-range c r _) _

  counting-on-in-range : InRange (counting_on c)
  unfolding counting_on
  counting-on-in-range = pick-holds InRange (is_counting c.counter.channel_state) _ _ (aged-in-range c r 1) (state-in-range c r (Counting Normal))

  half-in-range : (model : PitType) → InRange (half_over model c)
  unfolding half_over
  half-in-range model = pick-holds InRange (lingers model c) _ _ (state-in-range c r (Counting ReloadNextCycle)) (load-at-in-range (not c.pins.output))

after-in-range : (model : PitType) (c : Channel) → InRange c → InRange (after_counts model c)
unfolding after_counts
after-in-range model c r =
    pick-holds InRange (ends_half c.control.mode c.counter.counting_element) _ _ (half-in-range c r model)
    (counting-on-in-range (marked c) (marked-in-range c r))

by-in-range : (k : Kind) (model : PitType) (c : Channel) → InRange c → InRange (tick_by k model c)
unfolding idle deferred
by-in-range Idle model c r = output-in-range _ (aged-in-range c r 1) _
by-in-range Deferred model c r = output-in-range _ (state-in-range c r WaitingForLoadCycle) _
by-in-range Load model c r = load-at-in-range c r _
by-in-range Reload model c r = load-at-in-range c r _
by-in-range Count model c r = after-in-range model (times (takes c) count c) (counts-in-range (takes c) c r)

pub tick-in-range : (model : PitType) (c : Channel) → InRange c → InRange (tick model c)
unfolding tick
tick-in-range model c = by-in-range (due c) model c
