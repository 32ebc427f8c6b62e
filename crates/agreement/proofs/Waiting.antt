-- O1, M0, M1, M5: from a mode set to the load, and from the load to its trigger in modes 1 and 5, any number of ticks leaves the count, what is read and the
-- output. Assumes nothing.
use Prim.Native.Nat.{ℕ}
use mathlib.Core.Bool.{Bool, true, false, true≢false}
use mathlib.Core.Path.{◌≡◌, refl, sym, ◌∙◌}
use borrow.Author.Tests.{not-false}
use Rattle.channel.specs.declared.Channel.{Channel}
use Rattle.channel.specs.declared.ChannelMode.{ChannelMode}
use Rattle.channel.specs.declared.ChannelState.TheVariants.{WaitingForReload, DeferLoadCycle}
use Rattle.channel.specs.declared.ControlWord.{ControlWord}
use Rattle.channel.specs.declared.PitType.{PitType}
use Rattle.channel.specs.Shared.{change_channel_state, change_output_state}
use Rattle.channel.proofs.Modes.{every-mode}
use Rattle.mode.specs.Mode.{output_after, set_mode}
use Rattle.tick.specs.declared.due.Kind.TheVariants.{Idle, Deferred}
use Rattle.tick.specs.Due.{triggered, due}
use Rattle.tick.specs.Level.{rest_level, rests_at}
use Rattle.tick.specs.Tick.{deferred, tick}
use Rattle.agreement.specs.Waiting.{Stands, CountAwaited, TriggerAwaited, SetOutputStands, PutOff, LoadPutOff}
use Rattle.agreement.proofs.GateNothing.{counts-level}
use Rattle.agreement.proofs.Idling as idling
use Rattle.agreement.proofs.Output.{output-agrees}

-- the levels that may stand are those that an idle tick leaves; it takes the others high
rests : (level : Bool) (m : ChannelMode) → rests_at m level ≡ true → rest_level m level ≡ level
rests level =
    every-mode (λ (m : ChannelMode). rests_at m level ≡ true → rest_level m level ≡ level)
    (λ may. refl)
    (λ may. refl)
    (λ may. sym may)
    (λ may. refl)
    (λ may. sym may)
    (λ may. sym may)

ends : (level : Bool) (m : ChannelMode) → rests_at m level ≡ false → rest_level m level ≡ true
ends level =
    every-mode (λ (m : ChannelMode). rests_at m level ≡ false → rest_level m level ≡ true)
    (λ pulse. absurd (true≢false pulse))
    (λ pulse. absurd (true≢false pulse))
    (λ pulse. refl)
    (λ pulse. absurd (true≢false pulse))
    (λ pulse. refl)
    (λ pulse. refl)

stands : (model : PitType) (c : Channel) → due c ≡ Idle → (j : ℕ) → Stands model c j
stands model c still j =
    record {
      count-stands = idling.ticks-stand model c still j;
      state-stands = idling.state-stands model c still j;
      output-stands = λ may. idling.output-stands model c still (rests c.pins.output c.control.mode may) j;
      pulse-ends = λ pulse. idling.output-rests model c still j ∙ ends c.pins.output c.control.mode pulse;
    }

pub reload-idle : (c : Channel) → c.counter.channel_state ≡ WaitingForReload → due c ≡ Idle
unfolding due
reload-idle c waits = rw waits refl

pub count-awaited : CountAwaited
count-awaited model c waits j = stands model c (reload-idle c waits) j

pub trigger-awaited : TriggerAwaited
unfolding due
trigger-awaited model c waits none j =
    let starts : triggered c.control.mode ≡ true = not-false _ (sym (counts-level c.control.mode) ∙ none) in
    stands model c (rw (waits, starts) refl) j

-- the level of every mode set may stand
set-stands : (m : ChannelMode) → rests_at m (output_after m) ≡ true
set-stands = every-mode (λ (m : ChannelMode). rests_at m (output_after m) ≡ true) refl refl refl refl refl refl

set-waits : (model : PitType) (c : Channel) (word : ControlWord) (j : ℕ) → Stands model (set_mode c word model) j
unfolding set_mode
set-waits model c word j = count-awaited model (set_mode c word model) refl j

set-may : (model : PitType) (c : Channel) (word : ControlWord)
    → rests_at (set_mode c word model).control.mode (set_mode c word model).pins.output ≡ true
unfolding set_mode
set-may model c word = set-stands word.mode

pub set-output-stands : SetOutputStands
set-output-stands model c word j = (set-waits model c word j).output-stands (set-may model c word) ∙ output-agrees c word model

-- the tick of a load that is put off
deferred-puts-off : (c : Channel) → PutOff c (deferred c)
unfolding deferred change_output_state change_channel_state
deferred-puts-off c =
    record {
      count-stands = record { control-kept = refl; latch-kept = refl; element-kept = refl; status-latch-kept = refl; ticked-kept = refl };
      waits-on = refl;
      output-stands = rests c.pins.output c.control.mode;
      pulse-ends = ends c.pins.output c.control.mode;
    }

put-off-due : (c : Channel) → c.counter.channel_state ≡ DeferLoadCycle → due c ≡ Deferred
unfolding due
put-off-due c waits = rw waits refl

tick-puts-off : (model : PitType) (c : Channel) → due c ≡ Deferred → PutOff c (tick model c)
unfolding tick
tick-puts-off model c is-due = rw is-due (deferred-puts-off c)

pub load-put-off : LoadPutOff
load-put-off model c waits = tick-puts-off model c (put-off-due c waits)
