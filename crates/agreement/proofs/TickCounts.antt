-- What a tick leaves that counts once, in the modes other than 3: one count from the element, the output and armed by table D of docs/TICK.md, and
-- a channel that counts on. Assumes nothing.
use Prim.Native.Nat.{ℕ}
use mathlib.Core.Bool.{true, false, false≢true, not, cond, ◌&&◌}
use mathlib.Core.Path.{◌≡◌, refl, ◌∙◌}
use Rattle.channel.specs.declared.Channel.{Channel}
use Rattle.channel.specs.declared.ChannelState.{ChannelState}
use Rattle.channel.specs.declared.ChannelState.TheVariants.{WaitingForReload, WaitingForGate, DeferLoadCycle, WaitingForLoadCycle, WaitingForLoadTrigger, Counting}
use Rattle.channel.specs.declared.PitType.{PitType}
use Rattle.channel.specs.declared.ReloadFlag.TheVariants.{Normal, ReloadNextCycle}
use Rattle.channel.specs.Shared.{change_channel_state, change_output_state, put_element}
use Rattle.count.specs.Count.{count}
use Rattle.count.proofs.Repeated.{control-kept}
use Rattle.tick.specs.declared.due.Kind.TheVariants.{Reload, Count}
use Rattle.tick.specs.Due.{runs, reloads_from, due_in, due}
use Rattle.tick.specs.Taken.{takes}
use Rattle.tick.specs.Level.{strobes, count_level}
use Rattle.tick.specs.Tick.{aged_by, with_armed, ends_half, counting_on, marked, after_counts, tick}
use Rattle.agreement.specs.Gating.{goes_on}

-- d is c after one count of a tick, which comes to e
pub record CountedTo (e : ℕ) (c d : Channel) : Type 0 where
  pub has_value : d.counter.counting_element ≡ e
  pub has-level : d.pins.output ≡ count_level c.control.mode c.pins.output c.load.armed e
  pub is-counting : d.counter.channel_state ≡ Counting Normal
  pub is-armed : d.load.armed ≡ (c.load.armed && not (strobes c.control.mode c.load.armed e))

-- a channel that counts stays in its state, one that its gate held counts from now on
counted-in : (s : ChannelState) (c : Channel) → c.counter.channel_state ≡ s → goes_on s ≡ true
    → CountedTo (count c).counter.counting_element c (counting_on (marked (count c)))
unfolding counting_on aged_by marked with_armed change_output_state change_channel_state count put_element
counted-in WaitingForReload c state goes = absurd (false≢true goes)
counted-in WaitingForGate c state goes = record { has_value = simp state; has-level = simp state; is-counting = simp state; is-armed = simp state }
counted-in DeferLoadCycle c state goes = absurd (false≢true goes)
counted-in WaitingForLoadCycle c state goes = absurd (false≢true goes)
counted-in WaitingForLoadTrigger c state goes = absurd (false≢true goes)
counted-in (Counting Normal) c state goes = record { has_value = simp state; has-level = simp state; is-counting = simp state; is-armed = simp state }
counted-in (Counting ReloadNextCycle) c state goes = absurd (false≢true goes)

due-in : (s : ChannelState) (c : Channel) → goes_on s ≡ true → runs c ≡ true
    → due_in s c ≡ cond (reloads_from c.control.mode c.counter.counting_element) Reload Count
due-in WaitingForReload c goes running = absurd (false≢true goes)
due-in WaitingForGate c goes running = simp running
due-in DeferLoadCycle c goes running = absurd (false≢true goes)
due-in WaitingForLoadCycle c goes running = absurd (false≢true goes)
due-in WaitingForLoadTrigger c goes running = absurd (false≢true goes)
due-in (Counting Normal) c goes running = simp running
due-in (Counting ReloadNextCycle) c goes running = absurd (false≢true goes)

module _ (c : Channel) (goes : goes_on c.counter.channel_state ≡ true) where
  due-on : runs c ≡ true → due c ≡ cond (reloads_from c.control.mode c.counter.counting_element) Reload Count
  unfolding due
  due-on running = due-in c.counter.channel_state c goes running

  pub due-count : runs c ≡ true → reloads_from c.control.mode c.counter.counting_element ≡ false → due c ≡ Count
  due-count running below = due-on running ∙ rw below refl

  pub due-reload : runs c ≡ true → reloads_from c.control.mode c.counter.counting_element ≡ true → due c ≡ Reload
  due-reload running mark = due-on running ∙ rw mark refl

  after-one : (model : PitType) → ends_half c.control.mode (count c).counter.counting_element ≡ false
      → after_counts model (count c) ≡ counting_on (marked (count c))
  unfolding after_counts
  after-one model whole = rw (control-kept 1 c, whole) refl

  pub tick-counts : (model : PitType) → due c ≡ Count → takes c ≡ 1 → ends_half c.control.mode (count c).counter.counting_element ≡ false
      → CountedTo (count c).counter.counting_element c (tick model c)
  unfolding tick
  tick-counts model is-due one whole = rw (is-due, one, after-one model whole) (counted-in c.counter.channel_state c refl goes)
