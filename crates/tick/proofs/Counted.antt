-- A tick that does not load is, for the count that is read, that many counts and nothing else: docs/TICK.md, "Demand 3 with ticks". It leaves
-- element, output latch and `ticked` as `taken` counts do. Assumes nothing.
use mathlib.Core.Path.{◌≡◌, refl}
use mathlib.Core.Bool.{Bool, true, false, not, cond, ◌&&◌, true≢false}
use borrow.Author.Tests.{not-false}
use Rattle.numbers.specs.Times.{times}
use Rattle.channel.specs.declared.Channel.{Channel}
use Rattle.channel.specs.declared.ChannelState.TheVariants.{WaitingForLoadCycle, Counting}
use Rattle.channel.specs.declared.PitType.{PitType}
use Rattle.channel.specs.declared.ReloadFlag.TheVariants.{Normal, ReloadNextCycle}
use Rattle.channel.specs.Kept.{Kept}
use Rattle.channel.specs.Shared.{is_counting, change_channel_state}
use Rattle.channel.proofs.Keeps.{kept_then, kept-pick, kept-state, kept-output}
use Rattle.count.specs.Count.{count}
use Rattle.tick.specs.declared.due.Kind.{Kind}
use Rattle.tick.specs.declared.due.Kind.TheVariants.{Idle, Deferred, Load, Reload, Count}
use Rattle.tick.specs.Due.{due}
use Rattle.tick.specs.Taken.{takes, taken_by, taken}
use Rattle.tick.specs.Tick.{aged_by, idle, deferred, never_loaded, sent_back, with_armed, loaded, load_at, ends_half, lingers, half_over, counting_on, marked, after_counts, tick_by, tick}
use Rattle.tick.specs.Loads.{loads_after, load_is_due, loads}
use Rattle.tick.specs.Kept.{TickKeeps}
use Rattle.tick.specs.Laws.{CountedExactly}
use Rattle.tick.proofs.Keeps.{counts-keep}

kept-aged : (c : Channel) → Kept c (aged_by 1 c)
unfolding aged_by
kept-aged c = record { control-kept = refl; latch-kept = refl; element-kept = refl; status-latch-kept = refl; ticked-kept = refl }

kept-armed : (c : Channel) (armed : Bool) → Kept c (with_armed c armed)
unfolding with_armed
kept-armed c armed = record { control-kept = refl; latch-kept = refl; element-kept = refl; status-latch-kept = refl; ticked-kept = refl }

kept-sent-back : (c : Channel) → Kept c (sent_back c)
unfolding sent_back
kept-sent-back c = kept_then (kept-state c WaitingForLoadCycle) (kept-output _ true)

-- a count that may not be loaded moves nothing
kept-unloaded : (level : Bool) (c : Channel) → never_loaded c ≡ true → Kept c (load_at level c)
unfolding load_at
kept-unloaded level c never = rw never (kept-sent-back c)

kept_on : (c : Channel) → Kept c (counting_on c)
unfolding counting_on
kept_on c = kept-pick (is_counting c.counter.channel_state) (kept-aged c) (kept-state c (Counting Normal))

kept-marked : (c : Channel) → Kept c (marked c)
unfolding marked
kept-marked c = kept_then (kept-output c _) (kept-armed _ _)

-- whether the count may be loaded is not for counts to change
pub never-kept : {c d : Channel} → TickKeeps c d → never_loaded d ≡ never_loaded c
never-kept p = simp (p.control-kept, p.reload-kept)

half-kept : (b n : Bool) (d stay sent load : Channel) → (not b && not n) ≡ false → Kept d stay → Kept d sent
    → Kept d (cond b stay (cond n sent load))
half-kept true n d stay sent load h p q = p
half-kept false true d stay sent load h p q = q
half-kept false false d stay sent load h p q = absurd (true≢false h)

after_kept : (a b n : Bool) (d stay sent load on : Channel) → ((a && not b) && not n) ≡ false → Kept d stay → Kept d sent → Kept d on
    → Kept d (cond a (cond b stay (cond n sent load)) on)
after_kept true b n d stay sent load on h p q r = half-kept b n d stay sent load h p q
after_kept false b n d stay sent load on h p q r = r

kept-after : (model : PitType) (d : Channel)
    → (loads_after model d && not (never_loaded d)) ≡ false
    → Kept d (after_counts model d)
unfolding after_counts half_over load_at
kept-after model d h =
    after_kept (ends_half d.control.mode d.counter.counting_element) (lingers model d) (never_loaded d) d
    (change_channel_state d (Counting ReloadNextCycle)) (sent_back d) (loaded (not d.pins.output) d) (counting_on (marked d)) h
    (kept-state d (Counting ReloadNextCycle)) (kept-sent-back d) (kept_then (kept-marked d) (kept_on (marked d)))

counted-by : (k : Kind) (model : PitType) (c : Channel) → (load_is_due k model c && not (never_loaded c)) ≡ false
    → Kept (times (taken_by k c) count c) (tick_by k model c)
unfolding idle deferred
counted-by Idle model c h = kept_then (kept-aged c) (kept-output (aged_by 1 c) _)
counted-by Deferred model c h = kept_then (kept-state c WaitingForLoadCycle) (kept-output _ _)
counted-by Load model c h = kept-unloaded _ c (not-false _ h)
counted-by Reload model c h = kept-unloaded _ c (not-false _ h)
counted-by Count model c h =
    kept-after model (times (takes c) count c) (rw (never-kept (counts-keep (takes c) c)) h)

pub counted-exactly : CountedExactly
unfolding loads taken tick
counted-exactly model c h = counted-by (due c) model c h

module _ (model : PitType) (c : Channel) (unloaded : loads model c ≡ false) where
  pub counted-element : (tick model c).counter.counting_element ≡ (times (taken c) count c).counter.counting_element
  counted-element = (counted-exactly model c unloaded).element-kept

  pub counted-latch : (tick model c).latch ≡ (times (taken c) count c).latch
  counted-latch = (counted-exactly model c unloaded).latch-kept

  pub counted-ticked : (tick model c).counter.ticked ≡ (times (taken c) count c).counter.ticked
  counted-ticked = (counted-exactly model c unloaded).ticked-kept
