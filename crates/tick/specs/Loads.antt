-- Whether a tick moves a value to the counting element: docs/TICK.md, "Demand 3 with ticks".
use Rattle.std.specs.Prelude.{Bool, true, false, not, ◌&&◌}
use Rattle.numbers.specs.Times.{times}
use Rattle.channel.specs.declared.Channel.{Channel}
use Rattle.channel.specs.declared.PitType.{PitType}
use Rattle.count.specs.Count.{count}
use Rattle.tick.specs.declared.due.Kind.{Kind}
use Rattle.tick.specs.declared.due.Kind.TheVariants.{Idle, Deferred, Load, Reload, Count}
use Rattle.tick.specs.Due.{due}
use Rattle.tick.specs.Taken.{takes}
use Rattle.tick.specs.Tick.{never_loaded, ends_half, lingers}

-- the end of a half of mode 3 that does not linger
abbrev pub loads_after : PitType → Channel → Bool
loads_after model c = ends_half c.control.mode c.counter.counting_element && not (lingers model c)

abbrev pub load_is_due : Kind → PitType → Channel → Bool
load_is_due Idle model c = false
load_is_due Deferred model c = false
load_is_due Load model c = true
load_is_due Reload model c = true
load_is_due Count model c = loads_after model (times (takes c) count c)

-- a load is due, and the count may be loaded
unfoldable pub loads : PitType → Channel → Bool
loads model c = load_is_due (due c) model c && not (never_loaded c)
