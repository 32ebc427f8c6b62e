-- A channel's record with one of its parts put in the place of another. Document 01, "What must change shape": "Struct update is
-- written out." The rules put parts back through these; only the mode set, the fresh channel and a record read from bytes are written whole.
use Rattle.std.specs.Prelude.{Bool}
use Rattle.channel.specs.declared.Channel.{Channel}
use Rattle.channel.specs.declared.Load.{Load}
use Rattle.channel.specs.declared.Counter.{Counter}
use Rattle.channel.specs.declared.Latch.{Latch}
use Rattle.channel.specs.declared.Pins.{Pins}
use Rattle.channel.specs.declared.Status.{Status}

abbrev pub with_load : Channel → Load → Channel
with_load c l =
    record {
      control = c.control;
      reloading = c.reloading;
      load = l;
      counter = c.counter;
      latch = c.latch;
      pins = c.pins;
      status = c.status;
      dirty = c.dirty;
    }

abbrev pub with_counter : Channel → Counter → Channel
with_counter c k =
    record {
      control = c.control;
      reloading = c.reloading;
      load = c.load;
      counter = k;
      latch = c.latch;
      pins = c.pins;
      status = c.status;
      dirty = c.dirty;
    }

abbrev pub with_latch : Channel → Latch → Channel
with_latch c l =
    record {
      control = c.control;
      reloading = c.reloading;
      load = c.load;
      counter = c.counter;
      latch = l;
      pins = c.pins;
      status = c.status;
      dirty = c.dirty;
    }

abbrev pub with_pins : Channel → Pins → Channel
with_pins c p =
    record {
      control = c.control;
      reloading = c.reloading;
      load = c.load;
      counter = c.counter;
      latch = c.latch;
      pins = p;
      status = c.status;
      dirty = c.dirty;
    }

abbrev pub with_status : Channel → Status → Channel
with_status c s =
    record {
      control = c.control;
      reloading = c.reloading;
      load = c.load;
      counter = c.counter;
      latch = c.latch;
      pins = c.pins;
      status = s;
      dirty = c.dirty;
    }

abbrev pub with_dirty : Channel → Bool → Channel
with_dirty c d =
    record {
      control = c.control;
      reloading = c.reloading;
      load = c.load;
      counter = c.counter;
      latch = c.latch;
      pins = c.pins;
      status = c.status;
      dirty = d;
    }
