-- How many counts a tick takes: docs/TICK.md, table C.
use Rattle.std.specs.Prelude.{ℕ, ◌%◌, Bool, cond, eqb}
use Rattle.channel.specs.declared.Channel.{Channel}
use Rattle.channel.specs.Modes.{by_mode}
use Rattle.tick.specs.declared.due.Kind.{Kind}
use Rattle.tick.specs.declared.due.Kind.TheVariants.{Idle, Deferred, Load, Reload, Count}
use Rattle.tick.specs.Due.{due}

-- M3-8253: "with the output high the first tick after a load takes 1, with the output low 3, all others 2"; M3-8254: "Ticks take 2", and in mode 3 every
-- element that it loads is even
abbrev pub square_takes : Bool → ℕ → ℕ
square_takes high e = cond (eqb (e % 2) 0) 2 (cond high 1 3)

-- M0 to M5: one, but for mode 3
abbrev pub takes : Channel → ℕ
takes c = by_mode 1 1 1 (square_takes c.pins.output c.counter.counting_element) 1 1 c.control.mode

-- a tick that does not count takes none
abbrev pub taken_by : Kind → Channel → ℕ
taken_by Idle c = 0
taken_by Deferred c = 0
taken_by Load c = 0
taken_by Reload c = 0
taken_by Count c = takes c

unfoldable pub taken : Channel → ℕ
taken c = taken_by (due c) c
