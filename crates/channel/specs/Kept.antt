-- What document 01's gate changes and data writes leave alone: the count, the radix and access that it is read in, the latch, and a held status.
use Rattle.std.specs.Prelude.{◌≡◌}
use Rattle.channel.specs.declared.Channel.{Channel}

pub record Kept (before after : Channel) : Type 0 where
  pub control-kept : after.control ≡ before.control
  pub latch-kept : after.latch ≡ before.latch
  pub element-kept : after.counter.counting_element ≡ before.counter.counting_element
  pub status-latch-kept : after.status.status_latch ≡ before.status.status_latch
  pub ticked-kept : after.counter.ticked ≡ before.counter.ticked
