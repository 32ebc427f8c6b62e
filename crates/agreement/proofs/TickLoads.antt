-- What a tick leaves that loads a count: the load value in the element, the output at the level that the load has, and a channel that counts and is
-- armed. Assumes nothing.
use mathlib.Core.Bool.{Bool, true, false, cond}
use mathlib.Core.Path.{◌≡◌, refl}
use Rattle.channel.specs.declared.Channel.{Channel}
use Rattle.channel.specs.declared.ChannelState.TheVariants.{WaitingForLoadCycle, Counting}
use Rattle.channel.specs.declared.PitType.{PitType}
use Rattle.channel.specs.declared.ReloadFlag.TheVariants.{Normal}
use Rattle.channel.specs.Shared.{change_channel_state, change_output_state, put_element}
use Rattle.channel.specs.Queries.{get_output_state}
use Rattle.channel.proofs.Pick.{of-pick}
use Rattle.load.specs.Cycle.{load_value}
use Rattle.tick.specs.declared.due.Kind.TheVariants.{Load, Reload}
use Rattle.tick.specs.Due.{due}
use Rattle.tick.specs.Level.{load_level, reload_level}
use Rattle.tick.specs.Tick.{never_loaded, sent_back, with_armed, loaded, load_at, tick}

-- d is c after a load at a level
pub record LoadedAt (level : Bool) (c d : Channel) : Type 0 where
  pub has_value : d.counter.counting_element ≡ load_value c
  pub has-level : d.pins.output ≡ level
  pub is-counting : d.counter.channel_state ≡ Counting Normal
  pub is-armed : d.load.armed ≡ true

loaded_at : (level : Bool) (c : Channel) → LoadedAt level c (loaded level c)
unfolding loaded with_armed change_output_state change_channel_state put_element
loaded_at level c = record { has_value = refl; has-level = refl; is-counting = refl; is-armed = refl }

module _ (c : Channel) (may : never_loaded c ≡ false) where
  load_moves : (level : Bool) → load_at level c ≡ loaded level c
  unfolding load_at
  load_moves level = simp may

  load-at : (level : Bool) → LoadedAt level c (load_at level c)
  load-at level = rw (load_moves level) (loaded_at level c)

  pub tick-loads : (model : PitType) → due c ≡ Load → LoadedAt (load_level c.control.mode) c (tick model c)
  unfolding tick
  tick-loads model is-due = rw is-due (load-at _)

  pub tick-reloads : (model : PitType) → due c ≡ Reload → LoadedAt (reload_level c.control.mode c.pins.output) c (tick model c)
  unfolding tick
  tick-reloads model is-due = rw is-due (load-at _)

-- a count that is never loaded leaves the output high
pub tick-level : (model : PitType) (c : Channel) → due c ≡ Load → (tick model c).pins.output ≡ cond (never_loaded c) true (load_level c.control.mode)
unfolding tick load_at sent_back loaded with_armed change_output_state
tick-level model c is-due =
    rw is-due (of-pick get_output_state (never_loaded c) (sent_back c) (loaded (load_level c.control.mode) c))

-- .. and the load due
pub record Sent (d : Channel) : Type 0 where
  pub waits : d.counter.channel_state ≡ WaitingForLoadCycle
  pub is-high : d.pins.output ≡ true

pub sent-at : (level : Bool) (c : Channel) → never_loaded c ≡ true → Sent (load_at level c)
unfolding load_at sent_back change_output_state change_channel_state
sent-at level c never = rw never (record { waits = refl; is-high = refl })

pub load-sent : (model : PitType) (c : Channel) → never_loaded c ≡ true → due c ≡ Load → Sent (tick model c)
unfolding tick
load-sent model c never is-due = rw is-due (sent-at _ c never)

pub reload-sent : (model : PitType) (c : Channel) → never_loaded c ≡ true → due c ≡ Reload → Sent (tick model c)
unfolding tick
reload-sent model c never is-due = rw is-due (sent-at _ c never)

pub kept-element : (model : PitType) (c : Channel) → never_loaded c ≡ true → due c ≡ Load → (tick model c).counter.counting_element ≡ c.counter.counting_element
unfolding tick load_at sent_back change_output_state change_channel_state
kept-element model c never is-due = rw (is-due, never) refl
