-- What every tick of a channel leaves alone: docs/TICK.md, "One tick of one channel": "control word, gate, load mask, count register, reload value, latched, a
-- held status and a half-read word stand".
use Rattle.std.specs.Prelude.{◌≡◌, true}
use Rattle.channel.specs.declared.Channel.{Channel}

pub record TickKeeps (before after : Channel) : Type 0 where
  pub control-kept : after.control ≡ before.control
  pub reloading-kept : after.reloading ≡ before.reloading
  pub gate-kept : after.pins.gate ≡ before.pins.gate
  pub register-kept : after.load.count_register ≡ before.load.count_register
  pub reload-kept : after.load.reload_value ≡ before.load.reload_value
  pub load-state-kept : after.load.load_state ≡ before.load.load_state
  pub load-type-kept : after.load.load_type ≡ before.load.load_type
  pub latched-kept : after.latch.count_is_latched ≡ before.latch.count_is_latched
  pub half-kept : after.latch.read_state ≡ before.latch.read_state
  pub status-latch-kept : after.status.status_latch ≡ before.status.status_latch
  -- a held count stays, whatever the element does
  pub held_kept : before.latch.count_is_latched ≡ true → after.latch ≡ before.latch
