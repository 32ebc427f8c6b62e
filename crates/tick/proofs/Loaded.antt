-- A tick that loads moves the load value to the element: what stood there, and what the tick counted before it loaded, is gone. Assumes nothing.
use mathlib.Core.Path.{◌≡◌, refl, ap, ◌∙◌}
use mathlib.Core.Bool.{Bool, true, false, not, ◌&&◌, false≢true}
use borrow.Author.Tests.{not-true}
use Rattle.numbers.specs.Times.{times}
use Rattle.channel.specs.declared.Channel.{Channel}
use Rattle.channel.specs.declared.ControlWord.{ControlWord}
use Rattle.channel.specs.declared.PitType.{PitType}
use Rattle.channel.specs.declared.Reloading.{Reloading}
use Rattle.channel.specs.Shared.{change_channel_state, change_output_state, put_element}
use Rattle.count.specs.Count.{count}
use Rattle.load.specs.Cycle.{load_value}
use Rattle.load.proofs.Value.{value-alike}
use Rattle.tick.specs.declared.due.Kind.{Kind}
use Rattle.tick.specs.declared.due.Kind.TheVariants.{Idle, Deferred, Load, Reload, Count}
use Rattle.tick.specs.Due.{due}
use Rattle.tick.specs.Taken.{takes}
use Rattle.tick.specs.Tick.{never_loaded, with_armed, loaded, load_at, ends_half, lingers, half_over, after_counts, tick_by, tick}
use Rattle.tick.specs.Loads.{loads_after, load_is_due, loads}
use Rattle.tick.specs.Kept.{TickKeeps}
use Rattle.tick.specs.Laws.{LoadMoves}
use Rattle.tick.proofs.Keeps.{counts-keep}
use Rattle.tick.proofs.Counted.{never-kept}

value-kept : {c d : Channel} → TickKeeps c d → load_value d ≡ load_value c
value-kept {c} {d} p =
    value-alike c d
    (ap (λ (w : ControlWord). w.mode) p.control-kept) p.reload-kept (ap (λ (r : Reloading). r.load_mask) p.reloading-kept)

loaded-element : (level : Bool) (c : Channel) → (loaded level c).counter.counting_element ≡ load_value c
unfolding loaded with_armed change_output_state change_channel_state put_element
loaded-element level c = refl

load-element : (level : Bool) (c : Channel) → never_loaded c ≡ false → (load_at level c).counter.counting_element ≡ load_value c
unfolding load_at
load-element level c may = rw may (loaded-element level c)

pub both_first : (a b : Bool) → (a && b) ≡ true → a ≡ true
both_first true b h = refl
both_first false b h = h

pub both-second : (a b : Bool) → (a && b) ≡ true → b ≡ true
both-second true b h = h
both-second false b h = absurd (false≢true h)

half-element : (model : PitType) (d : Channel) → lingers model d ≡ false → never_loaded d ≡ false
    → (half_over model d).counter.counting_element ≡ load_value d
unfolding half_over
half-element model d goes may = rw goes (load-element (not d.pins.output) d may)

after-element : (model : PitType) (d : Channel) → loads_after model d ≡ true → never_loaded d ≡ false
    → (after_counts model d).counter.counting_element ≡ load_value d
unfolding after_counts
after-element model d h may =
    let ends = ends_half d.control.mode d.counter.counting_element in
    let leaves = not (lingers model d) in
    rw (both_first ends leaves h) (half-element model d (not-true (lingers model d) (both-second ends leaves h)) may)

moved_by : (k : Kind) (model : PitType) (c : Channel) → load_is_due k model c ≡ true → never_loaded c ≡ false
    → (tick_by k model c).counter.counting_element ≡ load_value c
moved_by Idle model c h may = absurd (false≢true h)
moved_by Deferred model c h may = absurd (false≢true h)
moved_by Load model c h may = load-element _ c may
moved_by Reload model c h may = load-element _ c may
moved_by Count model c h may =
    let kept = counts-keep (takes c) c in
    after-element model (times (takes c) count c) h (never-kept kept ∙ may) ∙ value-kept kept

pub load_moves : LoadMoves
unfolding loads tick
load_moves model c h =
    let falls = load_is_due (due c) model c in
    let may = not (never_loaded c) in
    moved_by (due c) model c (both_first falls may h) (not-true (never_loaded c) (both-second falls may h))
