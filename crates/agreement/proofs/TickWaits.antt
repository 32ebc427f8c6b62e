-- A tick never takes a channel back to wait for a count: none that has come is forgotten. Assumes nothing.
use mathlib.Core.Bool.{Bool, false}
use mathlib.Core.Path.{◌≡◌, refl, ap, ◌∙◌}
use Rattle.numbers.specs.Times.{times}
use Rattle.channel.specs.declared.Channel.{Channel}
use Rattle.channel.specs.declared.ChannelState.TheVariants.{Counting}
use Rattle.channel.specs.declared.PitType.{PitType}
use Rattle.channel.specs.declared.ReloadFlag.TheVariants.{Normal, ReloadNextCycle}
use Rattle.channel.specs.Shared.{waits_for_reload, is_counting, change_channel_state, change_output_state, put_element}
use Rattle.channel.proofs.Pick.{pick-holds}
use Rattle.count.specs.Count.{count}
use Rattle.tick.specs.declared.due.Kind.{Kind}
use Rattle.tick.specs.declared.due.Kind.TheVariants.{Idle, Deferred, Load, Reload, Count}
use Rattle.tick.specs.Due.{due}
use Rattle.tick.specs.Taken.{takes}
use Rattle.tick.specs.Tick.{aged_by, idle, deferred, never_loaded, sent_back, with_armed, loaded, load_at, ends_half, lingers, half_over, counting_on, marked, after_counts, tick_by, tick}
use Rattle.agreement.proofs.HeldCounts.{counts-state}

-- a count has come
abbrev Come : Channel → Type 0
Come d = waits_for_reload d.counter.channel_state ≡ false

come-load : (level : Bool) (d : Channel) → Come (load_at level d)
unfolding load_at sent_back loaded with_armed change_output_state change_channel_state put_element
come-load level d = pick-holds Come (never_loaded d) (sent_back d) (loaded level d) refl refl

come-half : (model : PitType) (d : Channel) → Come (half_over model d)
unfolding half_over change_channel_state
come-half model d =
    pick-holds Come (lingers model d) (change_channel_state d (Counting ReloadNextCycle)) (load_at _ d) refl (come-load _ d)

come-on : (d : Channel) → Come d → Come (counting_on (marked d))
unfolding counting_on marked aged_by with_armed change_output_state change_channel_state
come-on d come = pick-holds Come (is_counting d.counter.channel_state) (aged_by 1 (marked d)) (change_channel_state (marked d) (Counting Normal)) come refl

come-counts : (model : PitType) (d : Channel) → Come d → Come (after_counts model d)
unfolding after_counts
come-counts model d come =
    pick-holds Come (ends_half d.control.mode d.counter.counting_element) (half_over model d) (counting_on (marked d)) (come-half model d) (come-on d come)

come-by : (kind : Kind) (model : PitType) (c : Channel) → Come c → Come (tick_by kind model c)
unfolding idle deferred aged_by change_output_state change_channel_state
come-by Idle model c come = come
come-by Deferred model c come = refl
come-by Load model c come = come-load _ c
come-by Reload model c come = come-load _ c
come-by Count model c come = come-counts model (times (takes c) count c) (ap waits_for_reload (counts-state (takes c) c) ∙ come)

pub still-come : (model : PitType) (c : Channel) → waits_for_reload c.counter.channel_state ≡ false
    → waits_for_reload (tick model c).counter.channel_state ≡ false
unfolding tick
still-come model c come = come-by (due c) model c come
