-- The other calls that reach a channel: a mode set starts the sheets' counter anew, a reset ends it, counts and load cycles by hand lose it where it counts, and a
-- latch, a read and the dirty mark are nothing to it. Assumes nothing.
use Prim.Native.Nat.{ℕ, zero, suc}
use mathlib.Core.Bool.{Bool, true, false, true≢false, false≢true}
use mathlib.Core.Logic.{⊎_elim}
use mathlib.Core.Path.{◌≡◌, refl, sym, ap, ◌∙◌, subst}
use native.Mathlib.Omega.{arith}
use borrow.Author.Tests.{ne_eqb}
use Rattle.numbers.specs.Times.{times}
use Rattle.channel.specs.declared.Channel.{Channel}
use Rattle.channel.specs.declared.ChannelMode.{ChannelMode}
use Rattle.channel.specs.declared.ChannelState.{ChannelState}
use Rattle.channel.specs.declared.ChannelState.TheVariants.{WaitingForReload, WaitingForGate, DeferLoadCycle, WaitingForLoadCycle, WaitingForLoadTrigger, Counting}
use Rattle.channel.specs.declared.ControlWord.{ControlWord}
use Rattle.channel.specs.declared.LoadState.TheVariants.{WaitingForLsb}
use Rattle.channel.specs.declared.LoadType.{LoadType}
use Rattle.channel.specs.declared.LoadType.TheVariants.{InitialLoad, SubsequentLoad}
use Rattle.channel.specs.declared.PitType.{PitType}
use Rattle.channel.specs.declared.ReloadFlag.TheVariants.{Normal}
use Rattle.channel.specs.declared.RwMode.{RwMode}
use Rattle.channel.specs.declared.RwMode.TheVariants.{Lsb, Msb, LsbMsb}
use Rattle.channel.specs.Fresh.{fresh_at, reset}
use Rattle.channel.specs.Modes.{mode_number}
use Rattle.channel.specs.Queries.{does_retrigger}
use Rattle.channel.specs.Shared.{waits_for_reload, change_channel_state, put_element}
use Rattle.channel.proofs.Modes.{every-mode}
use Rattle.count.specs.Count.{count}
use Rattle.count.proofs.Repeated.{control-kept}
use Rattle.load.specs.Cycle.{load_value, cycle_in, load_cycle}
use Rattle.mode.specs.Mode.{output_after, reload_on_trigger, set_mode}
use Rattle.mode.proofs.Mask.{mask-set}
use Rattle.tick.specs.Due.{triggered}
use Rattle.sheet.specs.Gate.{fall_effect}
use Rattle.sheet.specs.Output.{output_after_mode_set}
use Rattle.sheet.specs.Counter.{Fixed, left_open, fixed_at, Phase, awaits_count, awaits_trigger, loading, counting, lost, programmed}
use Rattle.agreement.specs.Gating.{underway, goes_on}
use Rattle.agreement.specs.Words.{sheet_access}
use Rattle.agreement.specs.Watching.{Watch, unprogrammed, watching, one_now, gate_of, watch_program, watch_reset, miscounted, watch_counts, cycled, watch_cycle, IsFixed, HoldsValue}
use Rattle.agreement.proofs.HeldCounts.{counts-reloading, counts-load, counts-pins, counts-state}
use Rattle.agreement.proofs.Output.{output-agrees}
use Rattle.agreement.proofs.TrackBytes.{low_first}
use Rattle.agreement.proofs.GateTables.{standing-not, waiting-not}
use Rattle.agreement.proofs.Tracking.{Core, core_of, first_of, view, RuleIn, Rules, down, rate, square, paused, Standing, TriggerAwaited, LoadDue, PhaseAt, Holds, Tracks, not_yet, tracked}

-- the mode set
no-first : (a : RwMode) (register : ℕ) → first_of a WaitingForLsb register ≡ left_open
no-first Lsb register = refl
no-first Msb register = refl
no-first LsbMsb register = refl

first-not-later : InitialLoad ≡ SubsequentLoad → ⊥
first-not-later is = true≢false (ap is-first is)
  where
    is-first : LoadType → Bool
    is-first InitialLoad = true
    is-first SubsequentLoad = false

set-rule : (was : Bool) (m : ChannelMode) → RuleIn m (reload_on_trigger was m)
set-rule was = every-mode (λ (m : ChannelMode). RuleIn m (reload_on_trigger was m)) refl refl refl refl tt tt

set-one : (one : Fixed Bool) (was : Bool) → IsFixed one was → (m : ChannelMode) → IsFixed (one_now (mode_number m) one) (reload_on_trigger was m)
set-one one was is = every-mode (λ (m : ChannelMode). IsFixed (one_now (mode_number m) one) (reload_on_trigger was m)) refl refl refl refl is is

set-high : (m : ChannelMode) → (fall_effect (mode_number m)).raises ≡ true → output_after m ≡ true
set-high =
    every-mode (λ (m : ChannelMode). (fall_effect (mode_number m)).raises ≡ true → output_after m ≡ true)
    (λ r. absurd (false≢true r)) (λ r. refl) (λ r. refl) (λ r. refl) (λ r. refl) (λ r. refl)

module _ (model : PitType) (c : Channel) (word : ControlWord) (one : Fixed Bool) (rule : IsFixed one c.reloading.reload_on_trigger) where
  -- the counter that the mode set starts, and the record's
  abbrev started_at : Fixed ℕ → Fixed Bool → Watch
  started_at first output =
      watching
      (record {
        access = sheet_access word.rw_mode;
        mode = mode_number word.mode;
        bcd = word.bcd_mode;
        first = first;
        count = left_open;
        gate = c.pins.gate;
        phase = awaits_count;
        output = output;
        value = left_open;
      })
      false
      (one_now (mode_number word.mode) one)

  set_holds : Holds model awaits_count (fixed_at (output_after_mode_set (mode_number word.mode))) left_open false (one_now (mode_number word.mode) one)
      (core_of (set_mode c word model))
  unfolding set_mode
  set_holds =
      record {
        rules =
            record {
              masked = λ square. mask-set c word model square;
              one-is = set-one one c.reloading.reload_on_trigger rule word.mode;
              rule-is = set-rule c.reloading.reload_on_trigger word.mode;
              sixteen = λ type. absurd (first-not-later type);
              half = λ both zero waits. absurd (low_first waits);
            };
        phase-is = record { waits = refl; none = λ other. refl; is-high = set-high word.mode };
        output-is = output-agrees c word model;
        value-is = tt;
      }

  starts : Tracks model (watching (programmed c.pins.gate (sheet_access word.rw_mode) (mode_number word.mode) word.bcd_mode) false
      (one_now (mode_number word.mode) one))
      (core_of (set_mode c word model))
  unfolding set_mode
  starts =
      tracked awaits_count (fixed_at (output_after_mode_set (mode_number word.mode))) left_open false (one_now (mode_number word.mode) one)
      (ap (λ (f : Fixed ℕ). started_at f (fixed_at (output_after_mode_set (mode_number word.mode)))) (sym (no-first word.rw_mode c.load.count_register)))
      set_holds

pub program-tracks : (model : PitType) (w : Watch) (c : Channel) (word : ControlWord) → Tracks model w (core_of c)
    → Tracks model (watch_program w (sheet_access word.rw_mode) (mode_number word.mode) word.bcd_mode) (core_of (set_mode c word model))
program-tracks model w c word (not_yet one is rule) =
    subst
    (λ (x : Watch). Tracks model (watch_program x (sheet_access word.rw_mode) (mode_number word.mode) word.bcd_mode) (core_of (set_mode c word model)))
    (sym is)
    (starts model c word one rule)
program-tracks model w c word (tracked p o v late one is h) =
    subst
    (λ (x : Watch). Tracks model (watch_program x (sheet_access word.rw_mode) (mode_number word.mode) word.bcd_mode) (core_of (set_mode c word model)))
    (sym is)
    (starts model c word one h.rules.one-is)

-- a reset
gate-is : (model : PitType) (w : Watch) (c : Core) → Tracks model w c → gate_of w ≡ c.pins.gate
gate-is model w c (not_yet one is rule) = ap gate_of is
gate-is model w c (tracked p o v late one is h) = ap gate_of is

pub reset-tracks : (model : PitType) (w : Watch) (c : Channel) → Tracks model w (core_of c) → Tracks model (watch_reset w) (core_of (reset c))
unfolding fresh_at
reset-tracks model w c t = not_yet (fixed_at false) (ap (λ (g : Bool). unprogrammed g (fixed_at false)) (gate-is model w (core_of c) t)) refl

-- what is done by hand
abbrev hand_core : ℕ → ChannelState → Core → Core
hand_core e s c =
    record { control = c.control; reloading = c.reloading; load = c.load; state = s; element = e; pins = c.pins }

module _ (model : PitType) (e : ℕ) (s : ChannelState) (c : Core) (one : Fixed Bool)
    (stands : c.state ≡ WaitingForReload → s ≡ WaitingForReload) where
  -- the rules stay, if a channel that stands still goes on doing so
  hand-rules : Rules model one c → Rules model one (hand_core e s c)
  hand-rules h =
      record {
        masked = h.masked;
        one-is = h.one-is;
        rule-is = h.rule-is;
        sixteen = h.sixteen;
        half = λ both zero waits. let is = h.half both zero waits in (stands is.0, is.1);
      }

  by_hand : (p : Phase) (o : Fixed Bool) (v : Fixed ℕ) (late : Bool) → Rules model one c → PhaseAt p late model (hand_core e s c) → IsFixed o c.pins.output
      → HoldsValue v c.control.bcd_mode e → Tracks model (watching (view c p o v) late one) (hand_core e s c)
  by_hand p o v late rules there output value =
      tracked p o v late one refl (record { rules = hand-rules rules; phase-is = there; output-is = output; value-is = value })

-- counts leave the state
module _ (model : PitType) (e : ℕ) (c : Core) where
  phase-counted : (p : Phase) (late : Bool) → PhaseAt p late model c → PhaseAt (miscounted p) late model (hand_core e c.state c)
  phase-counted awaits_count late h = record { waits = h.waits; none = h.none; is-high = h.is-high }
  phase-counted awaits_trigger late h = record { waits = h.waits; complete = h.complete }
  phase-counted loading late h = record { waits = h.waits; complete = h.complete }
  phase-counted (counting n j) late h = record { complete = h.complete; come = λ other. standing-not model c n j h.there }
  phase-counted lost late h = record { complete = h.complete; come = h.come }

  abbrev miscount : Watch → Watch
  miscount w = watch_counts w 1

  counted-tracks : (w : Watch) → Tracks model w c → Tracks model (miscount w) (hand_core e c.state c)
  counted-tracks w (not_yet one is rule) = not_yet one (ap miscount is) rule
  counted-tracks w (tracked p o v late one is h) =
      subst (λ (x : Watch). Tracks model x (hand_core e c.state c)) (sym (ap miscount is))
      (by_hand model e c.state c one (λ waits. waits) (miscounted p) o left_open late h.rules (phase-counted p late h.phase-is) h.output-is tt)

counted-core : (n : ℕ) (c : Channel) → core_of (times n count c) ≡ hand_core (times n count c).counter.counting_element c.counter.channel_state (core_of c)
counted-core n c = rw (control-kept n c, counts-reloading n c, counts-load n c, counts-pins n c, counts-state n c) refl

same-miscount : (w : Watch) (k : ℕ) → watch_counts w (suc k) ≡ watch_counts w 1
same-miscount (unprogrammed gate one) k = refl
same-miscount (watching counter late one) k = rw (ne_eqb (suc k) 0 (λ q. omega arith)) refl

no-counts : (w : Watch) → watch_counts w 0 ≡ w
no-counts (unprogrammed gate one) = refl
no-counts (watching counter late one) = refl

pub counts-track : (model : PitType) (w : Watch) (c : Channel) (n : ℕ) → Tracks model w (core_of c) → Tracks model (watch_counts w n) (core_of (times n count c))
counts-track model w c zero t = subst (λ (x : Watch). Tracks model x (core_of c)) (sym (no-counts w)) t
counts-track model w c (suc k) t =
    subst (λ (x : Watch). Tracks model x (core_of (times (suc k) count c))) (sym (same-miscount w k))
    (subst (Tracks model (watch_counts w 1)) (sym (counted-core (suc k) c))
    (counted-tracks model (times (suc k) count c).counter.counting_element (core_of c) w t))

-- a load cycle takes a load that is due, or makes it due
abbrev cycled_state : ChannelState → ChannelState
cycled_state WaitingForReload = WaitingForReload
cycled_state WaitingForGate = WaitingForGate
cycled_state DeferLoadCycle = WaitingForLoadCycle
cycled_state WaitingForLoadCycle = Counting Normal
cycled_state WaitingForLoadTrigger = WaitingForLoadTrigger
cycled_state (Counting f) = Counting f

abbrev cycled_element : ChannelState → ℕ → ℕ → ℕ
cycled_element WaitingForReload moved e = e
cycled_element WaitingForGate moved e = e
cycled_element DeferLoadCycle moved e = e
cycled_element WaitingForLoadCycle moved e = moved
cycled_element WaitingForLoadTrigger moved e = e
cycled_element (Counting f) moved e = e

cycle-core : (s : ChannelState) (c : Channel) → c.counter.channel_state ≡ s
    → core_of (cycle_in s c) ≡ hand_core (cycled_element s (load_value c) c.counter.counting_element) (cycled_state s) (core_of c)
unfolding change_channel_state put_element
cycle-core WaitingForReload c is = rw is refl
cycle-core WaitingForGate c is = rw is refl
cycle-core DeferLoadCycle c is = refl
cycle-core WaitingForLoadCycle c is = refl
cycle-core WaitingForLoadTrigger c is = rw is refl
cycle-core (Counting f) c is = rw is refl

-- .. and in every other state does nothing
abbrev waits_to_load : ChannelState → Bool
waits_to_load WaitingForReload = false
waits_to_load WaitingForGate = false
waits_to_load DeferLoadCycle = true
waits_to_load WaitingForLoadCycle = true
waits_to_load WaitingForLoadTrigger = false
waits_to_load (Counting f) = false

unmoved : (s : ChannelState) → waits_to_load s ≡ false → (moved e : ℕ) → (cycled_state s ≡ s) × (cycled_element s moved e ≡ e)
unmoved WaitingForReload none moved e = (refl, refl)
unmoved WaitingForGate none moved e = (refl, refl)
unmoved DeferLoadCycle none moved e = absurd (true≢false none)
unmoved WaitingForLoadCycle none moved e = absurd (true≢false none)
unmoved WaitingForLoadTrigger none moved e = (refl, refl)
unmoved (Counting f) none moved e = (refl, refl)

underway-waits : (s : ChannelState) → underway s ≡ true → waits_to_load s ≡ false
underway-waits WaitingForReload is = refl
underway-waits WaitingForGate is = refl
underway-waits DeferLoadCycle is = absurd (false≢true is)
underway-waits WaitingForLoadCycle is = absurd (false≢true is)
underway-waits WaitingForLoadTrigger is = refl
underway-waits (Counting f) is = refl

goes-underway : (s : ChannelState) → goes_on s ≡ true → underway s ≡ true
goes-underway WaitingForReload is = is
goes-underway WaitingForGate is = refl
goes-underway DeferLoadCycle is = is
goes-underway WaitingForLoadCycle is = is
goes-underway WaitingForLoadTrigger is = is
goes-underway (Counting f) is = refl

still-come : (s : ChannelState) → waits_for_reload s ≡ false → waits_for_reload (cycled_state s) ≡ false
still-come WaitingForReload has = has
still-come WaitingForGate has = refl
still-come DeferLoadCycle has = refl
still-come WaitingForLoadCycle has = refl
still-come WaitingForLoadTrigger has = refl
still-come (Counting f) has = refl

module _ (model : PitType) (moved : ℕ) (c : Core) (one : Fixed Bool) (o : Fixed Bool) (v : Fixed ℕ) where
  abbrev after : Core
  after = hand_core (cycled_element c.state moved c.element) (cycled_state c.state) c

  abbrev Cycled : Phase → Bool → Type 0
  Cycled p late = Tracks model (watching (cycled p late (view c p o v)) false one) after

  unmoved-core : waits_to_load c.state ≡ false → after ≡ c
  unmoved-core none =
      let still = unmoved c.state none moved c.element in
      ap (λ (s : ChannelState). hand_core (cycled_element c.state moved c.element) s c) still.0 ∙ ap (λ (e : ℕ). hand_core e c.state c) still.1

  unmoved-tracks : (p : Phase) → waits_to_load c.state ≡ false → Holds model p o v false one c → Tracks model (watching (view c p o v) false one) after
  unmoved-tracks p none h =
      subst (Tracks model (watching (view c p o v) false one)) (sym (unmoved-core none)) (tracked p o v false one refl h)

  standing-underway : (n j : ℕ) → Standing model c n j → underway c.state ≡ true
  standing-underway n j (down d) = goes-underway c.state d.goes
  standing-underway n j (rate r) = ap underway r.counts
  standing-underway n j (square q) = ap underway q.counts
  standing-underway n j (paused q) = q.holds

  trigger-waits : TriggerAwaited c → waits_to_load c.state ≡ false
  trigger-waits =
      ⊎_elim
      (λ (waits : (c.state ≡ WaitingForLoadTrigger) × (triggered c.control.mode ≡ true)). ap waits_to_load waits.0)
      (λ (held : (underway c.state ≡ true) × ((does_retrigger c.control.mode ≡ true) × (c.pins.gate ≡ false))). underway-waits c.state held.0)

  abbrev hand : (p : Phase) (v' : Fixed ℕ) → Rules model one c → PhaseAt p false model after → IsFixed o c.pins.output
      → HoldsValue v' c.control.bcd_mode after.element → Tracks model (watching (view c p o v') false one) after
  hand p v' rules there output value =
      by_hand model after.element after.state c one (λ waits. ap cycled_state waits) p o v' false rules there output value

  loading-cycled : (late : Bool) → Holds model loading o v late one c → Cycled loading late
  loading-cycled true h =
      hand loading v h.rules
      (record { waits = subst (λ (s : ChannelState). LoadDue (cycled_state s) c.control.mode) (sym h.phase-is.waits) tt; complete = h.phase-is.complete })
      h.output-is
      (subst (λ (s : ChannelState). HoldsValue v c.control.bcd_mode (cycled_element s moved c.element)) (sym h.phase-is.waits) h.value-is)
  loading-cycled false h =
      hand lost left_open h.rules
      (record {
        complete = h.phase-is.complete;
        come = λ other. still-come c.state (waiting-not false c.state c.control.mode h.phase-is.waits);
      })
      h.output-is
      tt

  phase-cycled : (p : Phase) (late : Bool) → Holds model p o v late one c → Cycled p late
  phase-cycled awaits_count late h =
      unmoved-tracks awaits_count (ap waits_to_load h.phase-is.waits)
      (record { rules = h.rules; phase-is = h.phase-is; output-is = h.output-is; value-is = h.value-is })
  phase-cycled awaits_trigger late h =
      unmoved-tracks awaits_trigger (trigger-waits h.phase-is.waits)
      (record { rules = h.rules; phase-is = h.phase-is; output-is = h.output-is; value-is = h.value-is })
  phase-cycled loading late h = loading-cycled late h
  phase-cycled (counting n j) late h =
      unmoved-tracks (counting n j) (underway-waits c.state (standing-underway n j h.phase-is.there))
      (record { rules = h.rules; phase-is = h.phase-is; output-is = h.output-is; value-is = h.value-is })
  phase-cycled lost late h =
      hand lost left_open h.rules
      (record { complete = h.phase-is.complete; come = λ other. still-come c.state (h.phase-is.come other) })
      h.output-is
      tt

cycled-tracks : (model : PitType) (w : Watch) (moved : ℕ) (c : Core) → Tracks model w c
    → Tracks model (watch_cycle w) (hand_core (cycled_element c.state moved c.element) (cycled_state c.state) c)
cycled-tracks model w moved c (not_yet one is rule) = not_yet one (ap watch_cycle is) rule
cycled-tracks model w moved c (tracked p o v late one is h) =
    subst (λ (x : Watch). Tracks model x (hand_core (cycled_element c.state moved c.element) (cycled_state c.state) c)) (sym (ap watch_cycle is))
    (phase-cycled model moved c one o v p late h)

pub cycle-tracks : (model : PitType) (w : Watch) (c : Channel) → Tracks model w (core_of c) → Tracks model (watch_cycle w) (core_of (load_cycle c))
unfolding load_cycle
cycle-tracks model w c t =
    subst (Tracks model (watch_cycle w)) (sym (cycle-core c.counter.channel_state c refl)) (cycled-tracks model w (load_value c) (core_of c) t)
