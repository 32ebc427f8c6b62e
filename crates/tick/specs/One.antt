-- "A count of 1 in mode 2 or 3 is never loaded by a tick: the channel stays in, or returns to, `WaitingForLoadCycle` with output high" (02, L1; docs/TICK.md, T8).
use Rattle.std.specs.Prelude.{ℕ, suc, ◌≡◌, true, false}
use Rattle.numbers.specs.Times.{times}
use Rattle.channel.specs.declared.Channel.{Channel}
use Rattle.channel.specs.declared.ChannelMode.TheVariants.{SquareWaveGenerator}
use Rattle.channel.specs.declared.ChannelState.TheVariants.{WaitingForLoadCycle}
use Rattle.channel.specs.declared.PitType.{PitType}
use Rattle.channel.specs.Kept.{Kept}
use Rattle.channel.specs.Queries.{does_channel_retrigger}
use Rattle.count.specs.Count.{count}
use Rattle.tick.specs.declared.due.Kind.TheVariants.{Load, Reload, Count}
use Rattle.tick.specs.Due.{due}
use Rattle.tick.specs.Taken.{takes}
use Rattle.tick.specs.Tick.{lingers, tick}

-- a count of 1, as written, in mode 2 or 3
pub record WrittenOne (c : Channel) : Type 0 where
  pub mode-2-or-3 : does_channel_retrigger c ≡ true
  pub one : c.load.reload_value ≡ 1

-- d is c after a load that was due and was not made: nothing moves, the channel waits for the load, the output is high
pub record NotLoaded (c d : Channel) : Type 0 where
  pub nothing-moves : Kept c d
  pub waits-on : d.counter.channel_state ≡ WaitingForLoadCycle
  pub goes-high : d.pins.output ≡ true

-- a tick that counts a half of mode 3 to its end, where no tick passes after zero
pub record EndsAtZero (model : PitType) (c : Channel) : Type 0 where
  pub counts : due c ≡ Count
  pub square : c.control.mode ≡ SquareWaveGenerator
  pub to-zero : (times (takes c) count c).counter.counting_element ≡ 0
  pub at_once : lingers model c ≡ false

-- "stays": a load that is due is not made, by any number of ticks. "Returns": nor is a reload, nor the load at zero, which leaves the element at 0
pub record OneNeverLoaded (model : PitType) (c : Channel) : Type 0 where
  pub stays : due c ≡ Load → (j : ℕ) → NotLoaded c (times (suc j) (tick model) c)
  pub returns : due c ≡ Reload → NotLoaded c (tick model c)
  pub returns-at-zero : EndsAtZero model c → NotLoaded (times (takes c) count c) (tick model c)
  pub left-at-zero : EndsAtZero model c → (tick model c).counter.counting_element ≡ 0

abbrev pub NeverLoads : Type 0
NeverLoads = (model : PitType) (c : Channel) → WrittenOne c → OneNeverLoaded model c
