-- What a tick leaves of the null-count mark: cleared where it loads, and else as it was. Assumes nothing.
use mathlib.Core.Path.{◌≡◌, refl, ap, ◌∙◌}
use mathlib.Core.Bool.{Bool, true, false, not, cond, ◌&&◌}
use Rattle.numbers.specs.Times.{times}
use Rattle.channel.specs.declared.Channel.{Channel}
use Rattle.channel.specs.declared.PitType.{PitType}
use Rattle.channel.specs.declared.Status.{Status}
use Rattle.channel.specs.Shared.{is_counting, change_channel_state, change_output_state, put_element}
use Rattle.channel.proofs.Pick.{of-pick, pick_same}
use Rattle.count.specs.Count.{count}
use Rattle.count.proofs.Repeated.{status-kept}
use Rattle.tick.specs.declared.due.Kind.{Kind}
use Rattle.tick.specs.declared.due.Kind.TheVariants.{Idle, Deferred, Load, Reload, Count}
use Rattle.tick.specs.Due.{due}
use Rattle.tick.specs.Taken.{takes}
use Rattle.tick.specs.Tick.{aged_by, idle, deferred, never_loaded, sent_back, with_armed, loaded, load_at, ends_half, lingers, half_over, counting_on, marked, after_counts, tick_by, tick}
use Rattle.tick.specs.Loads.{loads_after, load_is_due, loads}
use Rattle.tick.specs.Laws.{NullAfterTick}
use Rattle.tick.proofs.Keeps.{counts-keep}
use Rattle.tick.proofs.Counted.{never-kept}

abbrev null : Channel → Bool
null c = c.status.null_count

-- either a load that may not be made, or one that is
picked : (never x y : Bool) → cond never x y ≡ cond (not never) y x
picked true x y = refl
picked false x y = refl

load-null : (level : Bool) (c : Channel) → null (load_at level c) ≡ cond (not (never_loaded c)) false (null c)
unfolding load_at sent_back loaded with_armed change_output_state change_channel_state put_element
load-null level c = of-pick null (never_loaded c) (sent_back c) (loaded level c) ∙ picked (never_loaded c) (null c) false

on_null : (c : Channel) → null (counting_on (marked c)) ≡ null c
unfolding counting_on marked aged_by with_armed change_output_state change_channel_state
on_null c =
    of-pick null (is_counting (marked c).counter.channel_state) _ _ ∙ pick_same (is_counting (marked c).counter.channel_state) (null c)

-- the end of a half that does not linger, of a count that may be loaded
at-end : (ends stays may x y z : Bool) → x ≡ cond may false y → z ≡ y → cond ends (cond stays y x) z ≡ cond ((ends && not stays) && may) false y
at-end true true may x y z is on = refl
at-end true false may x y z is on = is
at-end false stays may x y z is on = on

half-null : (model : PitType) (c : Channel) → null (half_over model c) ≡ cond (lingers model c) (null c) (null (load_at (not c.pins.output) c))
unfolding half_over change_channel_state
half-null model c = of-pick null (lingers model c) _ _

after-null : (model : PitType) (c : Channel)
    → null (after_counts model c)
    ≡ cond ((ends_half c.control.mode c.counter.counting_element && not (lingers model c)) && not (never_loaded c)) false (null c)
unfolding after_counts
after-null model c =
    let ends = ends_half c.control.mode c.counter.counting_element in
    of-pick null ends (half_over model c) (counting_on (marked c))
    ∙ rw (half-null model c)
    (at-end ends (lingers model c) (not (never_loaded c)) (null (load_at (not c.pins.output) c)) (null c) (null (counting_on (marked c)))
    (load-null (not c.pins.output) c) (on_null c))

-- whether the count may be loaded, and the mark, are not for counts to change
before-counts : (due : Bool) {n m x y : Bool} → n ≡ m → x ≡ y → cond (due && not n) false x ≡ cond (due && not m) false y
before-counts due e f = simp (e, f)

null-by : (k : Kind) (model : PitType) (c : Channel) → null (tick_by k model c) ≡ cond (load_is_due k model c && not (never_loaded c)) false (null c)
unfolding idle deferred aged_by change_output_state change_channel_state
null-by Idle model c = refl
null-by Deferred model c = refl
null-by Load model c = load-null _ c
null-by Reload model c = load-null _ c
null-by Count model c =
    let d = times (takes c) count c in
    after-null model d ∙ before-counts (loads_after model d) (never-kept (counts-keep (takes c) c)) (ap (λ (s : Status). s.null_count) (status-kept (takes c) c))

pub null-after-tick : NullAfterTick
unfolding tick loads
null-after-tick model c = null-by (due c) model c
