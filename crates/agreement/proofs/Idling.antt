-- A channel whose next tick is idle is idle for good: ticks leave its count, what is read of it and its state, and its output at the level that rests there.
-- Assumes nothing.
use Prim.Native.Nat.{ℕ, zero, suc}
use mathlib.Core.Bool.{Bool}
use mathlib.Core.Path.{◌≡◌, refl, ap, ◌∙◌}
use Rattle.numbers.specs.Times.{times}
use Rattle.channel.specs.declared.Channel.{Channel}
use Rattle.channel.specs.declared.ChannelMode.{ChannelMode}
use Rattle.channel.specs.declared.ChannelState.{ChannelState}
use Rattle.channel.specs.declared.ChannelState.TheVariants.{WaitingForReload, WaitingForGate, DeferLoadCycle, WaitingForLoadCycle, WaitingForLoadTrigger, Counting}
use Rattle.channel.specs.declared.ControlWord.{ControlWord}
use Rattle.channel.specs.declared.PitType.{PitType}
use Rattle.channel.specs.declared.ReloadFlag.TheVariants.{Normal, ReloadNextCycle}
use Rattle.channel.specs.Kept.{Kept}
use Rattle.channel.specs.Shared.{change_output_state}
use Rattle.channel.proofs.Keeps.{kept_same, kept_then}
use Rattle.channel.proofs.Modes.{every-mode}
use Rattle.tick.specs.declared.due.Kind.TheVariants.{Idle}
use Rattle.tick.specs.Due.{due_in, due}
use Rattle.tick.specs.Level.{rest_level}
use Rattle.tick.specs.Tick.{aged_by, idle, tick}

-- what is due reads nothing that an idle tick changes
due-in : (s : ChannelState) (c : Channel) → due_in s (idle c) ≡ due_in s c
unfolding idle aged_by change_output_state
due-in WaitingForReload c = refl
due-in WaitingForGate c = refl
due-in DeferLoadCycle c = refl
due-in WaitingForLoadCycle c = refl
due-in WaitingForLoadTrigger c = refl
due-in (Counting Normal) c = refl
due-in (Counting ReloadNextCycle) c = refl

idle-due : (c : Channel) → due (idle c) ≡ due c
unfolding due idle aged_by change_output_state
idle-due c = due-in c.counter.channel_state c

idle-keeps : (c : Channel) → Kept c (idle c)
unfolding idle aged_by change_output_state
idle-keeps c = record { control-kept = refl; latch-kept = refl; element-kept = refl; status-latch-kept = refl; ticked-kept = refl }

idle-state : (c : Channel) → (idle c).counter.channel_state ≡ c.counter.channel_state
unfolding idle aged_by change_output_state
idle-state c = refl

idle-output : (c : Channel) → (idle c).pins.output ≡ rest_level c.control.mode c.pins.output
unfolding idle aged_by change_output_state
idle-output c = refl

pub tick-idle : (model : PitType) (c : Channel) → due c ≡ Idle → tick model c ≡ idle c
unfolding tick
tick-idle model c still = rw still refl

-- a level that one idle tick leaves rests for the next
rests-twice : (level : Bool) (m : ChannelMode) → rest_level m (rest_level m level) ≡ rest_level m level
rests-twice level = every-mode (λ (m : ChannelMode). rest_level m (rest_level m level) ≡ rest_level m level) refl refl refl refl refl refl

module _ (model : PitType) (c : Channel) (still : due c ≡ Idle) where
  idle-after : (j : ℕ) → due (times j (tick model) c) ≡ Idle
  idle-after zero = still
  idle-after (suc j) = rw (tick-idle model (times j (tick model) c) (idle-after j)) (idle-due (times j (tick model) c) ∙ idle-after j)

  -- the tick after j
  next-idle : (j : ℕ) → times (suc j) (tick model) c ≡ idle (times j (tick model) c)
  next-idle j = tick-idle model (times j (tick model) c) (idle-after j)

  pub ticks-stand : (j : ℕ) → Kept c (times j (tick model) c)
  ticks-stand zero = kept_same c
  ticks-stand (suc j) = kept_then (ticks-stand j) (rw (next-idle j) (idle-keeps (times j (tick model) c)))

  pub state-stands : (j : ℕ) → (times j (tick model) c).counter.channel_state ≡ c.counter.channel_state
  state-stands zero = refl
  state-stands (suc j) = ap (λ (d : Channel). d.counter.channel_state) (next-idle j) ∙ idle-state (times j (tick model) c) ∙ state-stands j

  mode-stands : (j : ℕ) → (times j (tick model) c).control.mode ≡ c.control.mode
  mode-stands j = ap (λ (w : ControlWord). w.mode) (ticks-stand j).control-kept

  -- the output of the tick after j
  next-output : (j : ℕ) → (times (suc j) (tick model) c).pins.output ≡ rest_level c.control.mode (times j (tick model) c).pins.output
  next-output j =
      ap (λ (d : Channel). d.pins.output) (next-idle j)
      ∙ idle-output (times j (tick model) c)
      ∙ ap (λ (m : ChannelMode). rest_level m (times j (tick model) c).pins.output) (mode-stands j)

  -- where one tick takes the output, and where all further ones leave it
  pub output-rests : (j : ℕ) → (times (suc j) (tick model) c).pins.output ≡ rest_level c.control.mode c.pins.output
  output-rests zero = next-output zero
  output-rests (suc j) =
      next-output (suc j) ∙ ap (rest_level c.control.mode) (output-rests j) ∙ rests-twice c.pins.output c.control.mode

  pub output-stands : rest_level c.control.mode c.pins.output ≡ c.pins.output
      → (j : ℕ) → (times j (tick model) c).pins.output ≡ c.pins.output
  output-stands rests zero = refl
  output-stands rests (suc j) = output-rests j ∙ rests
