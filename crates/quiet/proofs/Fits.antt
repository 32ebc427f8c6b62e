-- A tick leaves an element of 16 bits one of 16 bits: it counts, or loads at most the reload value. Assumes nothing.
use Prim.Native.Nat.{ℕ, zero, suc, ◌<◌}
use mathlib.Core.Bool.{Bool, true, false}
use mathlib.Core.Path.{◌≡◌, refl}
use native.Mathlib.Omega.{arith}
use Rattle.numbers.specs.Times.{times}
use Rattle.channel.specs.declared.Channel.{Channel}
use Rattle.channel.specs.declared.PitType.{PitType}
use Rattle.count.specs.Step.{step_in}
use Rattle.count.specs.Count.{count}
use Rattle.count.proofs.Repeated.{element-after}
use Rattle.load.specs.Cycle.{load_value}
use Rattle.load.proofs.Value.{value-at-most}
use Rattle.tick.specs.Taken.{taken}
use Rattle.tick.specs.Tick.{tick}
use Rattle.tick.specs.Loads.{loads}
use Rattle.quiet.proofs.Rounds.{below_step}
use Rattle.tick.proofs.Counted.{counted-element}
use Rattle.tick.proofs.Loaded.{load_moves}

steps-fit : (n : ℕ) (bcd : Bool) (e : ℕ) → e < 65536 → times n (step_in bcd) e < 65536
steps-fit zero bcd e h = h
steps-fit (suc n) bcd e h = below_step bcd (times n (step_in bcd) e) (steps-fit n bcd e h)

counts-fit : (n : ℕ) (c : Channel) → c.counter.counting_element < 65536 → (times n count c).counter.counting_element < 65536
counts-fit n c h = rw (element-after n c) (steps-fit n c.control.bcd_mode c.counter.counting_element h)

value-fits : (c : Channel) → c.load.reload_value < 65536 → load_value c < 65536
value-fits c h = omega (arith, value-at-most c)

fits-either : (b : Bool) (model : PitType) (c : Channel) → loads model c ≡ b → c.counter.counting_element < 65536
    → c.load.reload_value < 65536 → (tick model c).counter.counting_element < 65536
fits-either true model c e h r = rw (load_moves model c e) (value-fits c r)
fits-either false model c e h r = rw (counted-element model c e) (counts-fit (taken c) c h)

pub tick-fits : (model : PitType) (c : Channel) → c.counter.counting_element < 65536 → c.load.reload_value < 65536
    → (tick model c).counter.counting_element < 65536
tick-fits model c h r = fits-either (loads model c) model c refl h r
