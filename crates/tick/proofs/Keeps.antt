-- Every tick, on either model and in every mode, leaves alone what `TickKeeps` lists; a held latch stays whole. Assumes nothing.
use Prim.Native.Nat.{ℕ, zero, suc}
use mathlib.Core.Path.{◌≡◌, refl, ◌∙◌}
use mathlib.Core.Bool.{Bool, true, false, cond}
use Rattle.numbers.specs.Times.{times}
use Rattle.channel.specs.declared.Channel.{Channel}
use Rattle.channel.specs.declared.Counter.{Counter}
use Rattle.channel.specs.declared.Latch.{Latch}
use Rattle.channel.specs.declared.ChannelState.{ChannelState}
use Rattle.channel.specs.declared.ChannelState.TheVariants.{WaitingForLoadCycle, Counting}
use Rattle.channel.specs.declared.PitType.{PitType}
use Rattle.channel.specs.declared.ReloadFlag.TheVariants.{Normal, ReloadNextCycle}
use Rattle.channel.specs.Shared.{is_counting, change_channel_state, change_output_state, put_element, with_null_count}
use Rattle.channel.proofs.Follows.{held-follows, follows-latched, follows-half}
use Rattle.count.specs.Count.{next_element, count}
use Rattle.tick.specs.declared.due.Kind.{Kind}
use Rattle.tick.specs.declared.due.Kind.TheVariants.{Idle, Deferred, Load, Reload, Count}
use Rattle.tick.specs.Due.{due}
use Rattle.tick.specs.Taken.{takes}
use Rattle.tick.specs.Level.{load_level, reload_level}
use Rattle.tick.specs.Tick.{aged_by, rested, idle, deferred, never_loaded, sent_back, with_armed, loaded, load_at, ends_half, lingers, half_over, counting_on, marked, after_counts, tick_by, tick}
use Rattle.tick.specs.Kept.{TickKeeps}
use Rattle.tick.specs.Laws.{TicksKeep}

pub keeps_then : {c d e : Channel} → TickKeeps c d → TickKeeps d e → TickKeeps c e
keeps_then p q =
    record {
      control-kept = q.control-kept ∙ p.control-kept;
      reloading-kept = q.reloading-kept ∙ p.reloading-kept;
      gate-kept = q.gate-kept ∙ p.gate-kept;
      register-kept = q.register-kept ∙ p.register-kept;
      reload-kept = q.reload-kept ∙ p.reload-kept;
      load-state-kept = q.load-state-kept ∙ p.load-state-kept;
      load-type-kept = q.load-type-kept ∙ p.load-type-kept;
      latched-kept = q.latched-kept ∙ p.latched-kept;
      half-kept = q.half-kept ∙ p.half-kept;
      status-latch-kept = q.status-latch-kept ∙ p.status-latch-kept;
      held_kept = λ held. q.held_kept (p.latched-kept ∙ held) ∙ p.held_kept held;
    }

keeps-pick : {c d e : Channel} (b : Bool) → TickKeeps c d → TickKeeps c e → TickKeeps c (cond b d e)
keeps-pick true p q = p
keeps-pick false p q = q

-- a channel with another counter, latch, arming, output and marks: of these only the latch is on the list
abbrev with_few : Channel → Counter → Latch → Bool → Bool → Bool → Bool → Channel
with_few c k l armed level null dirty =
    record {
      control = c.control;
      reloading = c.reloading;
      load =
          record {
            count_register = c.load.count_register;
            reload_value = c.load.reload_value;
            load_state = c.load.load_state;
            load_type = c.load.load_type;
            armed = armed;
          };
      counter = k;
      latch = l;
      pins = record { gate = c.pins.gate; output = level };
      status = record { status_latch = c.status.status_latch; null_count = null };
      dirty = dirty;
    }

keeps-few : (c : Channel) (k : Counter) (l : Latch) (armed level null dirty : Bool)
    → l.count_is_latched ≡ c.latch.count_is_latched
    → l.read_state ≡ c.latch.read_state
    → (c.latch.count_is_latched ≡ true → l ≡ c.latch)
    → TickKeeps c (with_few c k l armed level null dirty)
keeps-few c k l armed level null dirty latched half held =
    record {
      control-kept = refl;
      reloading-kept = refl;
      gate-kept = refl;
      register-kept = refl;
      reload-kept = refl;
      load-state-kept = refl;
      load-type-kept = refl;
      latched-kept = latched;
      half-kept = half;
      status-latch-kept = refl;
      held_kept = held;
    }

-- .. and with its own latch
keeps-latch : (c : Channel) (k : Counter) (armed level null dirty : Bool) → TickKeeps c (with_few c k c.latch armed level null dirty)
keeps-latch c k armed level null dirty = keeps-few c k c.latch armed level null dirty refl refl (λ held. refl)

keeps_same : (c : Channel) → TickKeeps c c
keeps_same c = keeps-latch c _ _ _ _ _

keeps-state : (c : Channel) (s : ChannelState) → TickKeeps c (change_channel_state c s)
unfolding change_channel_state
keeps-state c s = keeps-latch c _ _ _ _ _

keeps-output : (c : Channel) (level : Bool) → TickKeeps c (change_output_state c level)
unfolding change_output_state
keeps-output c level = keeps-latch c _ _ _ _ _

keeps-armed : (c : Channel) (armed : Bool) → TickKeeps c (with_armed c armed)
unfolding with_armed
keeps-armed c armed = keeps-latch c _ _ _ _ _

keeps_null : (c : Channel) (null : Bool) → TickKeeps c (with_null_count c null)
keeps_null c null = keeps-latch c _ _ _ _ _

keeps-aged : (k : ℕ) (c : Channel) → TickKeeps c (aged_by k c)
unfolding aged_by
keeps-aged k c = keeps-latch c _ _ _ _ _

-- a value put into the element reaches the latch unless that is held
keeps-put : (c : Channel) (e : ℕ) → TickKeeps c (put_element c e)
unfolding put_element
keeps-put c e =
    keeps-few c _ _ _ _ _ _ (follows-latched c.latch e) (follows-half c.latch e) (λ held. held-follows c.latch e held)

keeps-count : (c : Channel) → TickKeeps c (count c)
unfolding count
keeps-count c = keeps_then (keeps-put c (next_element c)) (keeps-latch (put_element c (next_element c)) _ _ _ _ _)

pub counts-keep : (n : ℕ) (c : Channel) → TickKeeps c (times n count c)
counts-keep zero c = keeps_same c
counts-keep (suc n) c = keeps_then (counts-keep n c) (keeps-count (times n count c))

keeps-rested : (c : Channel) → TickKeeps c (rested c)
keeps-rested c = keeps-output c _

keeps-sent-back : (c : Channel) → TickKeeps c (sent_back c)
unfolding sent_back
keeps-sent-back c = keeps_then (keeps-state c WaitingForLoadCycle) (keeps-output _ true)

keeps-loaded : (level : Bool) (c : Channel) → TickKeeps c (loaded level c)
unfolding loaded
keeps-loaded level c =
    keeps_then (keeps_then (keeps-put c _) (keeps_then (keeps-state _ (Counting Normal)) (keeps_null _ false)))
    (keeps_then (keeps-output _ level) (keeps-armed _ true))

keeps-load : (level : Bool) (c : Channel) → TickKeeps c (load_at level c)
unfolding load_at
keeps-load level c = keeps-pick (never_loaded c) (keeps-sent-back c) (keeps-loaded level c)

keeps_half : (model : PitType) (c : Channel) → TickKeeps c (half_over model c)
unfolding half_over
keeps_half model c = keeps-pick (lingers model c) (keeps-state c (Counting ReloadNextCycle)) (keeps-load _ c)

keeps_on : (c : Channel) → TickKeeps c (counting_on c)
unfolding counting_on
keeps_on c = keeps-pick (is_counting c.counter.channel_state) (keeps-aged 1 c) (keeps-state c (Counting Normal))

keeps-marked : (c : Channel) → TickKeeps c (marked c)
unfolding marked
keeps-marked c = keeps_then (keeps-output c _) (keeps-armed _ _)

keeps-after : (model : PitType) (c : Channel) → TickKeeps c (after_counts model c)
unfolding after_counts
keeps-after model c =
    keeps-pick (ends_half c.control.mode c.counter.counting_element) (keeps_half model c) (keeps_then (keeps-marked c) (keeps_on (marked c)))

keeps-by : (k : Kind) (model : PitType) (c : Channel) → TickKeeps c (tick_by k model c)
unfolding idle deferred
keeps-by Idle model c = keeps_then (keeps-aged 1 c) (keeps-rested (aged_by 1 c))
keeps-by Deferred model c = keeps_then (keeps-state c WaitingForLoadCycle) (keeps-rested _)
keeps-by Load model c = keeps-load (load_level c.control.mode) c
keeps-by Reload model c = keeps-load (reload_level c.control.mode c.pins.output) c
keeps-by Count model c = keeps_then (counts-keep (takes c) c) (keeps-after model (times (takes c) count c))

pub tick-keeps : TicksKeep
unfolding tick
tick-keeps model c = keeps-by (due c) model c

pub held : (model : PitType) (c : Channel) → c.latch.count_is_latched ≡ true → (tick model c).latch ≡ c.latch
held model c h = (tick-keeps model c).held_kept h
