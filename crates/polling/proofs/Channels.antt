-- What each rule of a channel does to what is known of it. Assumes nothing.
use Prim.Native.Nat.{ℕ, zero, suc}
use mathlib.Core.Bool.{Bool, true, false, cond, true≢false}
use mathlib.Core.List.{List, [], ◌∷◌}
use mathlib.Core.Path.{◌≡◌, refl, sym, ap, ◌∙◌}
use Rattle.numbers.specs.Times.{times}
use Rattle.sheet.specs.NullCount.{Happening, programmed, written, loaded}
use Rattle.channel.specs.declared.Channel.{Channel}
use Rattle.channel.specs.declared.ChannelState.{ChannelState}
use Rattle.channel.specs.declared.ChannelState.TheVariants.{WaitingForReload, WaitingForGate, DeferLoadCycle, WaitingForLoadCycle, WaitingForLoadTrigger, Counting}
use Rattle.channel.specs.declared.ControlWord.{ControlWord}
use Rattle.channel.specs.declared.LoadState.{LoadState}
use Rattle.channel.specs.declared.LoadState.TheVariants.{WaitingForMsb}
use Rattle.channel.specs.declared.LoadType.{LoadType}
use Rattle.channel.specs.declared.LoadType.TheVariants.{InitialLoad, SubsequentLoad}
use Rattle.channel.specs.declared.PitType.{PitType}
use Rattle.channel.specs.Fresh.{fresh_at}
use Rattle.channel.specs.Record.{with_dirty}
use Rattle.channel.specs.Shared.{waits_for_reload, waits_for_cycle, change_channel_state, change_output_state, put_element}
use Rattle.channel.proofs.Pick.{pick-holds, pick-knowing}
use Rattle.count.specs.Count.{count}
use Rattle.gate.specs.Gate.{loads_on_rise, stops_on_fall, high_on_fall, stopping, edge, set_gate}
use Rattle.latch.specs.declared.reading.ByteRead.{ByteRead}
use Rattle.latch.specs.Latching.{latch_count}
use Rattle.latch.specs.Reading.{read_byte}
use Rattle.latch.specs.ReadBack.{read_back}
use Rattle.latch.proofs.Words.{every-read}
use Rattle.latch.proofs.ReadBacks.{read-back-keeps}
use Rattle.load.specs.Finalize.{waiting_state, first_state, loads_again, complete_load, enter_after, finalize_load}
use Rattle.load.specs.Write.{put_register, stops_on_low_byte, stopped, begun, begins_word, word_in, state_in, write_byte}
use Rattle.load.specs.Cycle.{cycle_in, load_cycle}
use Rattle.mode.specs.Mode.{set_mode}
use Rattle.tick.specs.declared.due.Kind.{Kind}
use Rattle.tick.specs.declared.due.Kind.TheVariants.{Idle}
use Rattle.tick.specs.Due.{due_in, due}
use Rattle.tick.specs.Loads.{loads}
use Rattle.tick.specs.Tick.{aged_by, idle, tick_by, tick}
use Rattle.tick.proofs.Keeps.{tick-keeps}
use Rattle.tick.proofs.Loaded.{load_moves}
use Rattle.tick.proofs.NullCount.{null-after-tick}
use Rattle.polling.specs.Happened.{byte_happens, cycle_happens, tick_happens}
use Rattle.polling.proofs.Knows.{Knows, Unmoved, unmoved-same, unmoved-then, knows-still, knows-written, Moved, knows_moved}

-- A fresh channel, and one whose mode is set
pub fresh-knows : (level : Bool) → Knows [] (fresh_at level)
unfolding fresh_at
fresh-knows level = record { null_is = refl; written_is = refl; loaded-is = tt }

pub mode-knows : (all : List Happening) (c : Channel) (word : ControlWord) (model : PitType) → Knows (programmed ∷ all) (set_mode c word model)
unfolding set_mode
mode-knows all c word model = record { null_is = refl; written_is = refl; loaded-is = tt }

-- What moves nothing: counts, latches, reads, a level at the output
count-unmoved : (c : Channel) → Unmoved c (count c)
unfolding count put_element
count-unmoved c = record { same-null = refl; same-control = refl; same-rules = refl; same-reload = refl; still-waits = λ waits. waits }

pub counts-unmoved : (n : ℕ) (c : Channel) → Unmoved c (times n count c)
counts-unmoved zero c = unmoved-same c
counts-unmoved (suc n) c = unmoved-then (counts-unmoved n c) (count-unmoved (times n count c))

pub latch-unmoved : (c : Channel) → Unmoved c (latch_count c)
unfolding latch_count
latch-unmoved c = record { same-null = refl; same-control = refl; same-rules = refl; same-reload = refl; still-waits = λ waits. waits }

pub read-unmoved : (c : Channel) → Unmoved c (read_byte c).channel
read-unmoved c =
    every-read (λ (r : ByteRead). Unmoved c r.channel) c
    (λ none. record { same-null = refl; same-control = refl; same-rules = refl; same-reload = refl; still-waits = λ waits. waits })
    (λ held. record { same-null = refl; same-control = refl; same-rules = refl; same-reload = refl; still-waits = λ waits. waits })

pub back-unmoved : (counts status : Bool) (c : Channel) → Unmoved c (read_back counts status c)
back-unmoved counts status c =
    let k = read-back-keeps counts status c in
    record {
      same-null = k.null-stays;
      same-control = k.control-stays;
      same-rules = k.reloading-stays;
      same-reload = λ i. (k.load-stays i).reload_value;
      still-waits = λ waits. (λ i. (k.counter-stays i).channel_state) ∙ waits;
    }

pub dirty-unmoved : (c : Channel) (dirty : Bool) → Unmoved c (with_dirty c dirty)
dirty-unmoved c dirty = record { same-null = refl; same-control = refl; same-rules = refl; same-reload = refl; still-waits = λ waits. waits }

output-unmoved : (c : Channel) (level : Bool) → Unmoved c (change_output_state c level)
unfolding change_output_state
output-unmoved c level = record { same-null = refl; same-control = refl; same-rules = refl; same-reload = refl; still-waits = λ waits. waits }

-- a state entered, where the channel did not wait for a count or goes on doing so
state-unmoved : (c : Channel) (s : ChannelState) → (c.counter.channel_state ≡ WaitingForReload → s ≡ WaitingForReload) → Unmoved c (change_channel_state c s)
unfolding change_channel_state
state-unmoved c s waits = record { same-null = refl; same-control = refl; same-rules = refl; same-reload = refl; still-waits = waits }

-- "Gate edges act unless the state is `WaitingForReload`."
edge-unmoved : (was level : Bool) (c : Channel) → (c.counter.channel_state ≡ WaitingForReload → ⊥) → Unmoved c (edge was level c)
edge-unmoved false false c acts = unmoved-same c
edge-unmoved false true c acts =
    pick-holds (Unmoved c) (loads_on_rise c.control.mode) _ c (state-unmoved c WaitingForLoadCycle (λ waits. absurd (acts waits))) (unmoved-same c)
edge-unmoved true false c acts =
    let stops : Unmoved c (stopping c) =
    pick-holds (Unmoved c) (stops_on_fall c.control.mode) _ c (state-unmoved c WaitingForGate (λ waits. absurd (acts waits))) (unmoved-same c) in
    unmoved-then stops
    (pick-holds (Unmoved (stopping c)) (high_on_fall (stopping c).control.mode) _ (stopping c) (output-unmoved (stopping c) true) (unmoved-same (stopping c)))
edge-unmoved true true c acts = unmoved-same c

waits-is : (s : ChannelState) → s ≡ WaitingForReload → waits_for_reload s ≡ true
waits-is s e = ap waits_for_reload e

pub gate-unmoved : (c : Channel) (level : Bool) → Unmoved c (set_gate c level)
unfolding set_gate
gate-unmoved c level =
    unmoved-then
    (pick-knowing (Unmoved c) (waits_for_reload c.counter.channel_state) c (edge c.pins.gate level c) (λ waits. unmoved-same c)
    (λ acts. edge-unmoved c.pins.gate level c (λ waits. true≢false (sym (waits-is c.counter.channel_state waits) ∙ acts))))
    (record { same-null = refl; same-control = refl; same-rules = refl; same-reload = refl; still-waits = λ waits. waits })

-- A byte written: the first of two moves nothing, another completes the count
register-unmoved : (c : Channel) (value : ℕ) (s : LoadState) → Unmoved c (put_register c value s)
unfolding put_register
register-unmoved c value s = record { same-null = refl; same-control = refl; same-rules = refl; same-reload = refl; still-waits = λ waits. waits }

begun-unmoved : (c : Channel) → Unmoved c (begun c)
begun-unmoved c =
    pick-holds (Unmoved c) (stops_on_low_byte c.control.mode) (stopped c) c
    (unmoved-then (output-unmoved c false) (state-unmoved (change_output_state c false) WaitingForReload (λ waits. refl)))
    (unmoved-same c)

-- a whole count: the mark is set, also where no state is entered
pub record Whole (value : ℕ) (d : Channel) : Type 0 where
  pub null-set : d.status.null_count ≡ true
  pub reload-is : d.load.reload_value ≡ value

state-whole : (value : ℕ) (c : Channel) (s : ChannelState) → Whole value c → Whole value (change_channel_state c s)
unfolding change_channel_state
state-whole value c s h = record { null-set = h.null-set; reload-is = h.reload-is }

enter-whole : (value : ℕ) (t : LoadType) (defer : Bool) (c : Channel) → Whole value c → Whole value (enter_after t defer c)
enter-whole value InitialLoad defer c h = state-whole value c (first_state c.reloading.reload_on_trigger defer) h
enter-whole value SubsequentLoad defer c h =
    pick-holds (Whole value) (loads_again c.control.mode) _ c (state-whole value c (waiting_state defer) h) h

complete-whole : (c : Channel) (value : ℕ) (s : LoadState) (defer : Bool) → Whole value (finalize_load (put_register c value s) defer)
unfolding finalize_load complete_load put_register
complete-whole c value s defer = enter-whole value c.load.load_type defer _ (record { null-set = refl; reload-is = refl })

byte-in : (begins : Bool) (all : List Happening) (c : Channel) (byte : ℕ) (defer : Bool) → Knows all c
    → Knows (cond begins all (written (word_in c.control.rw_mode c.load.count_register byte) ∷ all))
    (cond begins (begun (put_register c byte WaitingForMsb))
    (finalize_load (put_register c (word_in c.control.rw_mode c.load.count_register byte) (state_in c.control.rw_mode c.load.load_state)) defer))
byte-in true all c byte defer k = knows-still (unmoved-then (register-unmoved c byte WaitingForMsb) (begun-unmoved (put_register c byte WaitingForMsb))) k
byte-in false all c byte defer k =
    let whole = complete-whole c (word_in c.control.rw_mode c.load.count_register byte) (state_in c.control.rw_mode c.load.load_state) defer in
    knows-written all _ _ whole.null-set whole.reload-is

pub byte-knows : (all : List Happening) (c : Channel) (byte : ℕ) (defer : Bool) → Knows all c → Knows (byte_happens c byte all) (write_byte c byte defer)
unfolding write_byte
byte-knows all c byte defer k = byte-in (begins_word c.control.rw_mode c.load.load_state) all c byte defer k

-- A load cycle by hand
cycle-moved : (c : Channel) → c.counter.channel_state ≡ WaitingForLoadCycle → Moved c (cycle_in WaitingForLoadCycle c)
unfolding change_channel_state put_element
cycle-moved c is =
    record {
      not-waiting = λ waits. true≢false (sym (ap waits_for_reload waits) ∙ ap waits_for_reload is);
      null-gone = refl;
      takes = refl;
      same-control = refl;
      same-rules = refl;
      same-reload = refl;
    }

cycle-in : (s : ChannelState) (all : List Happening) (c : Channel) → c.counter.channel_state ≡ s → Knows all c
    → Knows (cond (waits_for_cycle s) (loaded (cycle_in s c).counter.counting_element ∷ all) all) (cycle_in s c)
cycle-in WaitingForReload all c is k = k
cycle-in WaitingForGate all c is k = k
cycle-in DeferLoadCycle all c is k =
    knows-still (state-unmoved c WaitingForLoadCycle (λ waits. absurd (true≢false (sym (ap waits_for_reload waits) ∙ ap waits_for_reload is)))) k
cycle-in WaitingForLoadCycle all c is k = knows_moved all (cycle-moved c is) k
cycle-in WaitingForLoadTrigger all c is k = k
cycle-in (Counting f) all c is k = k

pub cycle-knows : (all : List Happening) (c : Channel) → Knows all c → Knows (cycle_happens c all) (load_cycle c)
unfolding load_cycle
cycle-knows all c k = cycle-in c.counter.channel_state all c refl k

-- A tick: one that loads, and one that does not
waits-idle : (c : Channel) → c.counter.channel_state ≡ WaitingForReload → due c ≡ Idle
unfolding due
waits-idle c waits = ap (λ (s : ChannelState). due_in s c) waits

waits-unloaded : (model : PitType) (c : Channel) → c.counter.channel_state ≡ WaitingForReload → loads model c ≡ false
unfolding loads
waits-unloaded model c waits = rw (waits-idle c waits) refl

idle-state : (model : PitType) (c : Channel) → due c ≡ Idle → (tick model c).counter.channel_state ≡ c.counter.channel_state
unfolding tick idle aged_by change_output_state
idle-state model c is = ap (λ (k : Kind). (tick_by k model c).counter.channel_state) is

tick-in : (l : Bool) (model : PitType) (all : List Happening) (c : Channel) → loads model c ≡ l → Knows all c
    → Knows (cond l (loaded (tick model c).counter.counting_element ∷ all) all) (tick model c)
tick-in true model all c is k =
    let kept = tick-keeps model c in
    knows_moved all
    (record {
      not-waiting = λ waits. true≢false (sym is ∙ waits-unloaded model c waits);
      null-gone = null-after-tick model c ∙ ap (λ (l : Bool). cond l false c.status.null_count) is;
      takes = load_moves model c is;
      same-control = kept.control-kept;
      same-rules = kept.reloading-kept;
      same-reload = kept.reload-kept;
    })
    k
tick-in false model all c is k =
    let kept = tick-keeps model c in
    knows-still
    (record {
      same-null = null-after-tick model c ∙ ap (λ (l : Bool). cond l false c.status.null_count) is;
      same-control = kept.control-kept;
      same-rules = kept.reloading-kept;
      same-reload = kept.reload-kept;
      still-waits = λ waits. idle-state model c (waits-idle c waits) ∙ waits;
    })
    k

pub tick-knows : (model : PitType) (all : List Happening) (c : Channel) → Knows all c → Knows (tick_happens model c all) (tick model c)
tick-knows model all c k = tick-in (loads model c) model all c refl k
