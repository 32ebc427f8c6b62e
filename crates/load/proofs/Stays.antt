-- What a load cycle does not do: "Output never moves", no latch is made, ended or half read, a held one stays, and so do a held status, the control word and the rules that the mode
-- sets left, the load mask among them. Assumes nothing.
use mathlib.Core.Path.{◌≡◌, refl}
use mathlib.Core.Bool.{true}
use Rattle.channel.specs.declared.Channel.{Channel}
use Rattle.channel.specs.declared.ChannelState.{ChannelState}
use Rattle.channel.specs.declared.ChannelState.TheVariants.{WaitingForReload, WaitingForGate, DeferLoadCycle, WaitingForLoadCycle, WaitingForLoadTrigger, Counting}
use Rattle.channel.specs.Shared.{change_channel_state, put_element}
use Rattle.channel.proofs.Follows.{follows-latched, follows-half}
use Rattle.load.specs.Cycle.{cycle_in, load_cycle}

record Stay (c d : Channel) : Type 0 where
  pins : d.pins ≡ c.pins
  rules : d.reloading ≡ c.reloading
  control : d.control ≡ c.control
  latched : d.latch.count_is_latched ≡ c.latch.count_is_latched
  half : d.latch.read_state ≡ c.latch.read_state
  status : d.status.status_latch ≡ c.status.status_latch

all-stays : (c : Channel) → Stay c c
all-stays c = record { pins = refl; rules = refl; control = refl; latched = refl; half = refl; status = refl }

stay-in : (s : ChannelState) (c : Channel) → Stay c (cycle_in s c)
unfolding change_channel_state put_element
stay-in WaitingForReload c = all-stays c
stay-in WaitingForGate c = all-stays c
stay-in DeferLoadCycle c = record { pins = refl; rules = refl; control = refl; latched = refl; half = refl; status = refl }
stay-in WaitingForLoadCycle c =
    record { pins = refl; rules = refl; control = refl; latched = follows-latched c.latch _; half = follows-half c.latch _; status = refl }
stay-in WaitingForLoadTrigger c = all-stays c
stay-in (Counting f) c = all-stays c

module _ (c : Channel) where
  stay : Stay c (load_cycle c)
  unfolding load_cycle
  stay = stay-in c.counter.channel_state c

  pub pins-stay : (load_cycle c).pins ≡ c.pins
  pins-stay = stay.pins

  pub rules-stay : (load_cycle c).reloading ≡ c.reloading
  rules-stay = stay.rules

  pub control-stays : (load_cycle c).control ≡ c.control
  control-stays = stay.control

  pub latched-stays : (load_cycle c).latch.count_is_latched ≡ c.latch.count_is_latched
  latched-stays = stay.latched

  pub status-stays : (load_cycle c).status.status_latch ≡ c.status.status_latch
  status-stays = stay.status

  pub half-stays : (load_cycle c).latch.read_state ≡ c.latch.read_state
  half-stays = stay.half

latch-in : (s : ChannelState) (c : Channel) → c.latch.count_is_latched ≡ true → (cycle_in s c).latch ≡ c.latch
unfolding change_channel_state put_element
latch-in WaitingForReload c held = refl
latch-in WaitingForGate c held = refl
latch-in DeferLoadCycle c held = refl
latch-in WaitingForLoadCycle c held = simp held
latch-in WaitingForLoadTrigger c held = refl
latch-in (Counting f) c held = refl

pub held_stays : (c : Channel) → c.latch.count_is_latched ≡ true → (load_cycle c).latch ≡ c.latch
unfolding load_cycle
held_stays c held = latch-in c.counter.channel_state c held
