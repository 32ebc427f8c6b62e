-- What ticks do to a channel that waits, for a count to be written or for a trigger: nothing that is read, and the output stands. Lines O1, M0, M1, M5 of
-- docs/SHEETS.md.
use Rattle.std.specs.Prelude.{ℕ, true, false, ◌≡◌}
use Rattle.numbers.specs.Times.{times}
use Rattle.channel.specs.declared.Channel.{Channel}
use Rattle.channel.specs.declared.ChannelState.TheVariants.{WaitingForReload, DeferLoadCycle, WaitingForLoadCycle, WaitingForLoadTrigger}
use Rattle.channel.specs.declared.ControlWord.{ControlWord}
use Rattle.channel.specs.declared.PitType.{PitType}
use Rattle.channel.specs.Kept.{Kept}
use Rattle.channel.specs.Modes.{mode_number}
use Rattle.mode.specs.Mode.{set_mode}
use Rattle.sheet.specs.Output.{output_after_mode_set}
use Rattle.tick.specs.Level.{rests_at}
use Rattle.tick.specs.Tick.{tick}
use Rattle.agreement.specs.Gating.{high}

-- j ticks leave the count, what is read, the state and the output; a pulse that was on in modes 2, 4, 5 ends with the first of them
pub record Stands (model : PitType) (c : Channel) (j : ℕ) : Type 0 where
  pub count-stands : Kept c (times j (tick model) c)
  pub state-stands : (times j (tick model) c).counter.channel_state ≡ c.counter.channel_state
  pub output-stands : rests_at c.control.mode c.pins.output ≡ true → (times j (tick model) c).pins.output ≡ c.pins.output
  pub pulse-ends : rests_at c.control.mode c.pins.output ≡ false → (tick model (times j (tick model) c)).pins.output ≡ true

-- from a mode set, or from mode 0's first byte, which "stops counting" (M0), to the write that completes the count
abbrev pub CountAwaited : Type 0
CountAwaited = (model : PitType) (c : Channel) → c.counter.channel_state ≡ WaitingForReload → (j : ℕ) → Stands model c j

-- M1, M5: "loading waits for the tick after a trigger"; these are the modes to which the gate's level is nothing (G1, G5)
abbrev pub TriggerAwaited : Type 0
TriggerAwaited = (model : PitType) (c : Channel) → c.counter.channel_state ≡ WaitingForLoadTrigger → high c ≡ false → (j : ℕ) → Stands model c j

-- O1: "After a mode set the output is low in mode 0 and high in modes 1 to 5", however many ticks come before the count
abbrev pub SetOutputStands : Type 0
SetOutputStands = (model : PitType) (c : Channel) (word : ControlWord) (j : ℕ)
    → (times j (tick model) (set_mode c word model)).pins.output ≡ output_after_mode_set (mode_number word.mode)

-- d is c after the one tick by which a set defer flag puts off a load (docs/DIFFERENCES.md, S1): the same, but that the load is due then
pub record PutOff (c d : Channel) : Type 0 where
  pub count-stands : Kept c d
  pub waits-on : d.counter.channel_state ≡ WaitingForLoadCycle
  pub output-stands : rests_at c.control.mode c.pins.output ≡ true → d.pins.output ≡ c.pins.output
  pub pulse-ends : rests_at c.control.mode c.pins.output ≡ false → d.pins.output ≡ true

abbrev pub LoadPutOff : Type 0
LoadPutOff = (model : PitType) (c : Channel) → c.counter.channel_state ≡ DeferLoadCycle → PutOff c (tick model c)
