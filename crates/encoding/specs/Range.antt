-- A channel whose numbers are those that its fields can hold. Every channel of a program is one: the fields' types say so.
use Rattle.std.specs.Prelude.{◌<◌}
use Rattle.channel.specs.declared.Channel.{Channel}

pub record InRange (c : Channel) : Type 0 where
  pub mask : c.reloading.load_mask < 65536
  pub register : c.load.count_register < 65536
  pub reload : c.load.reload_value < 65536
  pub cycles : c.counter.cycles_in_state < 4294967296
  pub element : c.counter.counting_element < 65536
  pub held : c.latch.output_latch < 65536
  pub status : c.status.status_latch < 256
