-- Quiet ticks that do not count: time passes, or a count of 1 is met once more. Each leaves no end of them. Assumes nothing.
use Prim.Native.Nat.{ℕ, suc, ◌<◌, ◌≤◌}
use mathlib.Core.Bool.{Bool, true, false, ◌&&◌, false≢true}
use mathlib.Core.Path.{◌≡◌, refl, sym, ap, ◌∙◌}
use native.Mathlib.Omega.{arith}
use lib.Dec.{eqb}
use borrow.Author.Tests.{eqb-true}
use Rattle.channel.specs.declared.Channel.{Channel}
use Rattle.channel.specs.declared.ChannelMode.{ChannelMode}
use Rattle.channel.specs.declared.ChannelState.{ChannelState}
use Rattle.channel.specs.declared.ChannelState.TheVariants.{WaitingForReload, WaitingForGate, DeferLoadCycle, WaitingForLoadCycle, WaitingForLoadTrigger, Counting}
use Rattle.channel.specs.declared.PitType.{PitType}
use Rattle.channel.specs.declared.ReloadFlag.TheVariants.{Normal, ReloadNextCycle}
use Rattle.channel.specs.Shared.{waits_for_cycle, change_channel_state, change_output_state}
use Rattle.channel.proofs.Modes.{every-mode}
use Rattle.channel.proofs.Pick.{pick_same}
use Rattle.tick.specs.declared.due.Kind.{Kind}
use Rattle.tick.specs.declared.due.Kind.TheVariants.{Idle, Load}
use Rattle.tick.specs.Due.{due_in, due}
use Rattle.tick.specs.Level.{rest_level, rests_at}
use Rattle.tick.specs.Tick.{aged_by, idle, never_loaded, sent_back, load_at, tick_by, tick}
use Rattle.quiet.specs.Inner.{met_already, quiet_if, quiet_by, quiet, skip_by, skip}
use Rattle.quiet.proofs.Ages.{aged-more}
use Rattle.tick.proofs.Loaded.{both_first, both-second}

pub skip-as : (k : Kind) (n : ℕ) (c : Channel) → due c ≡ k → skip n c ≡ skip_by k n c
unfolding skip
skip-as k n c e = ap (λ (kind : Kind). skip_by kind n c) e

pub quiet-as : (k : Kind) (c : Channel) → due c ≡ k → quiet c ≡ quiet_by k c
unfolding quiet
quiet-as k c e = ap (λ (kind : Kind). quiet_by kind c) e

pub tick-as : (k : Kind) (model : PitType) (c : Channel) → due c ≡ k → tick model c ≡ tick_by k model c
unfolding tick
tick-as k model c e = ap (λ (kind : Kind). tick_by kind model c) e

-- what the three laws say of a channel and the one after its tick
pub record Next (model : PitType) (c d : Channel) : Type 0 where
  pub one : tick model c ≡ d
  pub fits : d.counter.counting_element < 65536
  pub fewer : quiet c ≤ suc (quiet d)
  pub more : (k : ℕ) → skip (suc k) c ≡ skip k d

quiet-if : (b : Bool) → 0 < quiet_if b → b ≡ true
quiet-if true h = refl
quiet-if false h = absurd (omega arith)

-- idle
rest-same : (m : ChannelMode) (level : Bool) → rests_at m level ≡ true → rest_level m level ≡ level
rest-same m level =
    every-mode (λ (n : ChannelMode). rests_at n level ≡ true → rest_level n level ≡ level)
    (λ h. refl) (λ h. refl) (λ h. sym h) (λ h. refl) (λ h. sym h) (λ h. sym h) m

output-same : (c : Channel) (level : Bool) → level ≡ c.pins.output → change_output_state c level ≡ c
unfolding change_output_state
output-same c level e = rw e

idle-same : (c : Channel) → rests_at c.control.mode c.pins.output ≡ true → idle c ≡ aged_by 1 c
unfolding idle
idle-same c h = output-same (aged_by 1 c) _ (unfold aged_by in rest-same c.control.mode c.pins.output h)

aged-in : (s : ChannelState) (k : ℕ) (c : Channel) → due_in s (aged_by k c) ≡ due_in s c
unfolding aged_by
aged-in WaitingForReload k c = refl
aged-in WaitingForGate k c = refl
aged-in DeferLoadCycle k c = refl
aged-in WaitingForLoadCycle k c = refl
aged-in WaitingForLoadTrigger k c = refl
aged-in (Counting Normal) k c = refl
aged-in (Counting ReloadNextCycle) k c = refl

pub due-aged : (k : ℕ) (c : Channel) → due (aged_by k c) ≡ due c
unfolding due
due-aged k c = unfold aged_by in aged-in c.counter.channel_state k c

pub next-idle : (model : PitType) (c : Channel) → c.counter.counting_element < 65536 → due c ≡ Idle → 0 < quiet c
    → Next model c (aged_by 1 c)
next-idle model c h e q =
    let rests : rests_at c.control.mode c.pins.output ≡ true = quiet-if _ (rw (quiet-as Idle c e) at q) in
    let e2 : due (aged_by 1 c) ≡ Idle = due-aged 1 c ∙ e in
    record {
      one = tick-as Idle model c e ∙ idle-same c rests;
      fits = unfold aged_by in h;
      fewer = rw (quiet-as Idle c e, quiet-as Idle (aged_by 1 c) e2) (unfold aged_by in omega arith);
      more = λ k. skip-as Idle (suc k) c e ∙ aged-more k c ∙ sym (skip-as Idle k (aged_by 1 c) e2);
    }

-- a count of 1, met before
waits-is : (s : ChannelState) → waits_for_cycle s ≡ true → s ≡ WaitingForLoadCycle
waits-is WaitingForReload h = absurd (false≢true h)
waits-is WaitingForGate h = absurd (false≢true h)
waits-is DeferLoadCycle h = absurd (false≢true h)
waits-is WaitingForLoadCycle h = refl
waits-is WaitingForLoadTrigger h = absurd (false≢true h)
waits-is (Counting f) h = absurd (false≢true h)

abbrev standing : Channel → ChannelState → ℕ → Bool → Channel
standing c s cycles level =
    record {
      control = c.control;
      reloading = c.reloading;
      load = c.load;
      counter =
          record {
            channel_state = s;
            cycles_in_state = cycles;
            counting_element = c.counter.counting_element;
            ticked = c.counter.ticked;
          };
      latch = c.latch;
      pins = record { gate = c.pins.gate; output = level };
      status = c.status;
      dirty = c.dirty;
    }

sent-standing : (c : Channel) → sent_back c ≡ standing c WaitingForLoadCycle 0 true
unfolding sent_back change_output_state change_channel_state
sent-standing c = simp pick_same

sent-same : (c : Channel) → c.counter.channel_state ≡ WaitingForLoadCycle → c.counter.cycles_in_state ≡ 0 → c.pins.output ≡ true
    → sent_back c ≡ c
sent-same c s z o = sent-standing c ∙ sym (λ i. standing c (s i) (z i) (o i))

met-same : (level : Bool) (c : Channel) → met_already c ≡ true → load_at level c ≡ c
unfolding load_at
met-same level c h =
    let s = c.counter.channel_state in
    let z = eqb c.counter.cycles_in_state 0 in
    let h2 = both-second (never_loaded c) (waits_for_cycle s && (c.pins.output && z)) h in
    let h3 = both-second (waits_for_cycle s) (c.pins.output && z) h2 in
    rw (both_first (never_loaded c) (waits_for_cycle s && (c.pins.output && z)) h)
    (sent-same c (waits-is s (both_first (waits_for_cycle s) (c.pins.output && z) h2)) (eqb-true _ _ (both-second c.pins.output z h3))
    (both_first c.pins.output z h3))

pub next-load : (model : PitType) (c : Channel) → c.counter.counting_element < 65536 → due c ≡ Load → 0 < quiet c → Next model c c
next-load model c h e q =
    let met : met_already c ≡ true = quiet-if _ (rw (quiet-as Load c e) at q) in
    record {
      one = tick-as Load model c e ∙ met-same _ c met;
      fits = h;
      fewer = omega arith;
      more = λ k. skip-as Load (suc k) c e ∙ sym (skip-as Load k c e);
    }
