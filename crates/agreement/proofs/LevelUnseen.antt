-- What a tick does with what is due sees nothing of the gate's level: with another level it does the same, and leaves that level. Only `due` sees it.
-- Assumes nothing.
use Prim.Native.Nat.{ℕ, zero, suc}
use mathlib.Core.Bool.{Bool, not}
use mathlib.Core.Path.{◌≡◌, refl, sym, ap, ◌∙◌}
use Rattle.numbers.specs.Times.{times}
use Rattle.channel.specs.declared.Channel.{Channel}
use Rattle.channel.specs.declared.ChannelState.TheVariants.{Counting}
use Rattle.channel.specs.declared.PitType.{PitType}
use Rattle.channel.specs.declared.ReloadFlag.TheVariants.{Normal, ReloadNextCycle}
use Rattle.channel.specs.Shared.{is_counting, change_channel_state, change_output_state, put_element}
use Rattle.channel.proofs.Pick.{of-pick}
use Rattle.count.specs.Count.{count}
use Rattle.gate.specs.Gate.{with_gate}
use Rattle.load.specs.Cycle.{load_value}
use Rattle.tick.specs.declared.due.Kind.{Kind}
use Rattle.tick.specs.declared.due.Kind.TheVariants.{Idle, Deferred, Load, Reload, Count}
use Rattle.tick.specs.Due.{due}
use Rattle.tick.specs.Taken.{takes}
use Rattle.tick.specs.Tick.{aged_by, idle, deferred, never_loaded, sent_back, with_armed, loaded, load_at, ends_half, lingers, half_over, counting_on, marked, after_counts, tick_by, tick}

module _ (gate : Bool) where
  counts-level : (k : ℕ) (c : Channel) → times k count (with_gate c gate) ≡ with_gate (times k count c) gate
  unfolding count put_element
  counts-level zero c = refl
  counts-level (suc k) c = ap count (counts-level k c)

  load-level : (level : Bool) (c : Channel) → load_at level (with_gate c gate) ≡ with_gate (load_at level c) gate
  unfolding load_at sent_back loaded with_armed change_output_state change_channel_state put_element load_value
  load-level level c = sym (of-pick (λ (d : Channel). with_gate d gate) (never_loaded c) (sent_back c) (loaded level c))

  half-level : (model : PitType) (c : Channel) → half_over model (with_gate c gate) ≡ with_gate (half_over model c) gate
  unfolding half_over change_channel_state
  half-level model c =
      rw (load-level (not c.pins.output) c)
      (sym
      (of-pick (λ (d : Channel). with_gate d gate) (lingers model c)
      (change_channel_state c (Counting ReloadNextCycle))
      (load_at (not c.pins.output) c)))

  counting-level : (c : Channel) → counting_on (with_gate c gate) ≡ with_gate (counting_on c) gate
  unfolding counting_on aged_by change_channel_state
  counting-level c =
      sym
      (of-pick (λ (d : Channel). with_gate d gate) (is_counting c.counter.channel_state)
      (aged_by 1 c)
      (change_channel_state c (Counting Normal)))

  marked-level : (c : Channel) → marked (with_gate c gate) ≡ with_gate (marked c) gate
  unfolding marked with_armed change_output_state
  marked-level c = refl

  after-level : (model : PitType) (c : Channel) → after_counts model (with_gate c gate) ≡ with_gate (after_counts model c) gate
  unfolding after_counts
  after-level model c =
      rw (half-level model c, marked-level c, counting-level (marked c))
      (sym
      (of-pick (λ (d : Channel). with_gate d gate) (ends_half c.control.mode c.counter.counting_element)
      (half_over model c)
      (counting_on (marked c))))

  kind-level : (k : Kind) (model : PitType) (c : Channel) → tick_by k model (with_gate c gate) ≡ with_gate (tick_by k model c) gate
  unfolding idle deferred aged_by change_output_state change_channel_state
  kind-level Idle model c = refl
  kind-level Deferred model c = refl
  kind-level Load model c = load-level _ c
  kind-level Reload model c = load-level _ c
  kind-level Count model c = ap (after_counts model) (counts-level (takes c) c) ∙ after-level model (times (takes c) count c)

  pub unseen-level : (model : PitType) (c : Channel) → due (with_gate c gate) ≡ due c → tick model (with_gate c gate) ≡ with_gate (tick model c) gate
  unfolding tick
  unseen-level model c same = rw same (kind-level (due c) model c)
