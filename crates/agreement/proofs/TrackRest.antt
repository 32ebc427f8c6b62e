-- Ticks that neither load nor count, in step with the sheets' counter. Assumes nothing.
use Prim.Native.Nat.{ℕ}
use mathlib.Core.Bool.{Bool, true, false, true≢false, false≢true}
use mathlib.Core.Path.{◌≡◌, refl, sym, ap, ◌∙◌, subst}
use Rattle.channel.specs.declared.Channel.{Channel}
use Rattle.channel.specs.declared.ChannelMode.{ChannelMode}
use Rattle.channel.specs.declared.ChannelState.{ChannelState}
use Rattle.channel.specs.declared.ChannelState.TheVariants.{WaitingForReload, WaitingForGate, DeferLoadCycle, WaitingForLoadCycle, WaitingForLoadTrigger, Counting}
use Rattle.channel.specs.declared.PitType.{PitType}
use Rattle.channel.specs.declared.ReloadFlag.TheVariants.{Normal, ReloadNextCycle}
use Rattle.channel.specs.Modes.{mode_number}
use Rattle.channel.specs.Shared.{change_channel_state, change_output_state}
use Rattle.channel.proofs.Modes.{every-mode}
use Rattle.tick.specs.declared.due.Kind.{Kind}
use Rattle.tick.specs.declared.due.Kind.TheVariants.{Idle, Deferred, Load, Reload, Count}
use Rattle.tick.specs.Due.{triggered, runs, due}
use Rattle.tick.specs.Level.{rest_level}
use Rattle.tick.specs.Tick.{aged_by, idle, deferred, tick}
use Rattle.sheet.specs.Counter.{Fixed, Phase, loading}
use Rattle.sheet.specs.CounterTick.{rested}
use Rattle.agreement.specs.Gating.{underway, goes_on}
use Rattle.agreement.specs.Watching.{watching, IsFixed}
use Rattle.agreement.proofs.CountsDown.{counts_down, every-down, ends_high}
use Rattle.agreement.proofs.GateStops.{idle-in}
use Rattle.agreement.proofs.Idling.{tick-idle}
use Rattle.agreement.proofs.Tracking.{Core, core_of, view, Rules, Down, down, Paused, paused, AwaitsCount, AwaitsTrigger, Counts, PhaseAt, Holds, Tracks, tracked}
use Rattle.agreement.proofs.Waiting.{reload-idle}

-- the record after such a tick, in a state
abbrev pub rested_in : ChannelState → Core → Core
rested_in s c =
    record {
      control = c.control;
      reloading = c.reloading;
      load = c.load;
      state = s;
      element = c.element;
      pins = record { gate = c.pins.gate; output = rest_level c.control.mode c.pins.output };
    }

idle-core : (c : Channel) → core_of (idle c) ≡ rested_in c.counter.channel_state (core_of c)
unfolding idle aged_by change_output_state
idle-core c = refl

deferred-core : (c : Channel) → core_of (deferred c) ≡ rested_in WaitingForLoadCycle (core_of c)
unfolding deferred change_output_state change_channel_state
deferred-core c = refl

-- an output that is fixed rests where the sheets say
rest-output : (level : Bool) (o : Fixed Bool) → IsFixed o level → (m : ChannelMode) → IsFixed (rested (mode_number m) o) (rest_level m level)
rest-output level o is =
    every-mode (λ (m : ChannelMode). IsFixed (rested (mode_number m) o) (rest_level m level)) is is refl is refl refl

high-rests : (level : Bool) → level ≡ true → (m : ChannelMode) → rest_level m level ≡ true
high-rests level high =
    every-mode (λ (m : ChannelMode). rest_level m level ≡ true) high high refl high refl refl

ends-rest : (level : Bool) (m : ChannelMode) → counts_down m ≡ true → ends_high m ≡ true → rest_level m level ≡ level
ends-rest level =
    every-down (λ (m : ChannelMode). ends_high m ≡ true → rest_level m level ≡ level) (λ h. refl) (λ h. refl) (λ h. absurd (false≢true h)) (λ h. absurd (false≢true h))

rules-rest : (s : ChannelState) (model : PitType) (one : Fixed Bool) (c : Core) → (c.state ≡ WaitingForReload → s ≡ WaitingForReload)
    → Rules model one c → Rules model one (rested_in s c)
rules-rest s model one c same h =
    record {
      masked = h.masked;
      one-is = h.one-is;
      rule-is = h.rule-is;
      sixteen = h.sixteen;
      half =
          λ both zero waits.
          let is = h.half both zero waits in
          (same is.0, ap (λ (m : ChannelMode). rest_level m c.pins.output) zero ∙ is.1);
    }

idle-not-deferred : Idle ≡ Deferred → ⊥
idle-not-deferred is = true≢false (ap is-idle is)
  where
    is-idle : Kind → Bool
    is-idle Idle = true
    is-idle Deferred = false
    is-idle Load = false
    is-idle Reload = false
    is-idle Count = false

module _ (model : PitType) (o : Fixed Bool) (v : Fixed ℕ) (one : Fixed Bool) where
  -- a record in its own state, and what is said of it
  holds-rest : (p : Phase) (late : Bool) (s : ChannelState) (c : Core) → (c.state ≡ WaitingForReload → s ≡ WaitingForReload)
      → Holds model p o v late one c → (q : Phase) (after : Bool)
      → PhaseAt q after model (rested_in s c) → Holds model q (rested (mode_number c.control.mode) o) v after one (rested_in s c)
  holds-rest p late s c same h q after there =
      record {
        rules = rules-rest s model one c same h.rules;
        phase-is = there;
        output-is = rest-output c.pins.output o h.output-is c.control.mode;
        value-is = h.value-is;
      }

  -- a channel whose next tick is idle, or only puts a load off
  module _ (c : Channel) (p : Phase) (late : Bool) (h : Holds model p o v late one (core_of c)) where
    pub rests : due c ≡ Idle → PhaseAt p false model (rested_in c.counter.channel_state (core_of c))
        → Tracks model (watching (view (core_of c) p (rested (mode_number c.control.mode) o) v) false one) (core_of (tick model c))
    rests still there =
        subst (Tracks model (watching (view (core_of c) p (rested (mode_number c.control.mode) o) v) false one))
        (sym (ap core_of (tick-idle model c still) ∙ idle-core c))
        (tracked p (rested (mode_number c.control.mode) o) v false one refl (holds-rest p late c.counter.channel_state (core_of c) (λ waits. waits) h p false there))

    tick-deferred : due c ≡ Deferred → tick model c ≡ deferred c
    unfolding tick
    tick-deferred put-off = rw put-off refl

    not-deferred : due c ≡ Deferred → c.counter.channel_state ≡ WaitingForReload → WaitingForLoadCycle ≡ WaitingForReload
    not-deferred is-due waits = absurd (idle-not-deferred (sym (reload-idle c waits) ∙ is-due))

    pub put-off : due c ≡ Deferred → PhaseAt loading false model (rested_in WaitingForLoadCycle (core_of c))
        → Tracks model (watching (view (core_of c) loading (rested (mode_number c.control.mode) o) v) false one) (core_of (tick model c))
    put-off is-due there =
        subst (Tracks model (watching (view (core_of c) loading (rested (mode_number c.control.mode) o) v) false one))
        (sym (ap core_of (tick-deferred is-due) ∙ deferred-core c))
        (tracked loading (rested (mode_number c.control.mode) o) v false one refl (holds-rest p late WaitingForLoadCycle (core_of c) (not-deferred is-due) h loading false there))

-- the phases that rest
pub count-rests : (c : Core) → AwaitsCount c → AwaitsCount (rested_in c.state c)
count-rests c h =
    record { waits = h.waits; none = h.none; is-high = λ raises. high-rests c.pins.output (h.is-high raises) c.control.mode }

pub trigger-rests : (c : Core) → AwaitsTrigger c → AwaitsTrigger (rested_in c.state c)
trigger-rests c h = record { waits = h.waits; complete = h.complete }

down-rests : (c : Core) (n j : ℕ) → Down c n j → Down (rested_in c.state c) n j
down-rests c n j h =
    record {
      down = h.down;
      has_value = h.has_value;
      goes = h.goes;
      level = λ high. ends-rest c.pins.output c.control.mode h.down high ∙ h.level high;
      armed = h.armed;
    }

paused-rests : (model : PitType) (c : Core) (n j : ℕ) → Paused model c n j → Paused model (rested_in c.state c) n j
paused-rests model c n j h =
    record { repeats = h.repeats; in-period = h.in-period; has_value = h.has_value; holds = h.holds; gate-low = h.gate-low }

module _ (model : PitType) (c : Core) (n j : ℕ) (h : Counts model c n j) where
  pub down-counts-rest : Down c n j → Counts model (rested_in c.state c) n j
  down-counts-rest d = record { complete = h.complete; at_least = h.at_least; at_most = h.at_most; there = down (down-rests c n j d) }

  pub paused-counts-rest : Paused model c n j → Counts model (rested_in c.state c) n j
  paused-counts-rest d = record { complete = h.complete; at_least = h.at_least; at_most = h.at_most; there = paused (paused-rests model c n j d) }

-- what makes a tick idle
pub trigger-idle : (c : Channel) → c.counter.channel_state ≡ WaitingForLoadTrigger → triggered c.control.mode ≡ true → due c ≡ Idle
unfolding due
trigger-idle c waits starts = rw waits (simp starts)

pub deferred-due : (c : Channel) → c.counter.channel_state ≡ DeferLoadCycle → due c ≡ Deferred
unfolding due
deferred-due c waits = rw waits refl

goes-underway : (s : ChannelState) → goes_on s ≡ true → underway s ≡ true
goes-underway WaitingForReload goes = goes
goes-underway WaitingForGate goes = refl
goes-underway DeferLoadCycle goes = goes
goes-underway WaitingForLoadCycle goes = goes
goes-underway WaitingForLoadTrigger goes = goes
goes-underway (Counting Normal) goes = refl
goes-underway (Counting ReloadNextCycle) goes = refl

pub held-idle : (c : Channel) → underway c.counter.channel_state ≡ true → runs c ≡ false → due c ≡ Idle
unfolding due
held-idle c going still = idle-in c.counter.channel_state c going still

pub goes-idle : (c : Channel) → goes_on c.counter.channel_state ≡ true → runs c ≡ false → due c ≡ Idle
goes-idle c goes still = held-idle c (goes-underway c.counter.channel_state goes) still
