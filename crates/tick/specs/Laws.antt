-- What is proved of every tick: docs/TICK.md, "One tick of one channel" and "Demand 3 with ticks".
use Rattle.std.specs.Prelude.{◌≡◌, true, false, cond}
use Rattle.numbers.specs.Times.{times}
use Rattle.channel.specs.declared.Channel.{Channel}
use Rattle.channel.specs.declared.PitType.{PitType}
use Rattle.channel.specs.Kept.{Kept}
use Rattle.count.specs.Count.{count}
use Rattle.load.specs.Cycle.{load_value}
use Rattle.tick.specs.Taken.{taken}
use Rattle.tick.specs.Tick.{tick}
use Rattle.tick.specs.Loads.{loads}
use Rattle.tick.specs.Kept.{TickKeeps}

-- "control word, gate, load mask, count register, reload value, latched, a held status and a half-read word stand"
abbrev pub TicksKeep : Type 0
TicksKeep = (model : PitType) (c : Channel) → TickKeeps c (tick model c)

-- "A tick that does not load leaves element, output latch and ticked as its counts do"
abbrev pub CountedExactly : Type 0
CountedExactly = (model : PitType) (c : Channel) → loads model c ≡ false → Kept (times (taken c) count c) (tick model c)

-- one that loads leaves the load value in the element, as a load cycle by hand does
abbrev pub LoadMoves : Type 0
LoadMoves = (model : PitType) (c : Channel) → loads model c ≡ true → (tick model c).counter.counting_element ≡ load_value c

-- .. and clears the null-count mark; no other tick does, not one that makes a deferred load due, nor one that meets a count of 1 (02, L5)
abbrev pub NullAfterTick : Type 0
NullAfterTick =
    (model : PitType) (c : Channel) → (tick model c).status.null_count ≡ cond (loads model c) false c.status.null_count
