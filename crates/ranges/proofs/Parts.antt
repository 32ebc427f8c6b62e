-- The numbers of a channel with one of its parts put in the place of another: they fit where those of the new part do. So do those that the shared rules leave, which enter a state,
-- change the output, give the element a value, or set a mark. Assumes nothing.
use Prim.Native.Nat.{ℕ, ◌<◌}
use mathlib.Core.Bool.{Bool}
use native.Mathlib.Omega.{arith}
use Rattle.channel.specs.declared.Channel.{Channel}
use Rattle.channel.specs.declared.ChannelState.{ChannelState}
use Rattle.channel.specs.declared.Counter.{Counter}
use Rattle.channel.specs.declared.Latch.{Latch}
use Rattle.channel.specs.declared.Load.{Load}
use Rattle.channel.specs.declared.Pins.{Pins}
use Rattle.channel.specs.declared.Status.{Status}
use Rattle.channel.specs.Record.{with_load, with_counter, with_latch, with_pins, with_status, with_dirty}
use Rattle.channel.specs.Shared.{followed, change_channel_state, change_output_state, put_element, with_null_count}
use Rattle.channel.proofs.Pick.{pick-holds}
use Rattle.encoding.specs.Range.{InRange}

module _ (c : Channel) (r : InRange c) where
  pub load-in-range : (l : Load) → l.count_register < 65536 → l.reload_value < 65536 → InRange (with_load c l)
  load-in-range l register reload = omega arith

  pub counter-in-range : (k : Counter) → k.cycles_in_state < 4294967296 → k.counting_element < 65536 → InRange (with_counter c k)
  counter-in-range k cycles element = omega arith

  pub latch-in-range : (l : Latch) → l.output_latch < 65536 → InRange (with_latch c l)
  latch-in-range l held = omega arith

  pub pins-in-range : (p : Pins) → InRange (with_pins c p)
  pins-in-range p = omega arith

  pub status-in-range : (s : Status) → s.status_latch < 256 → InRange (with_status c s)
  status-in-range s status = omega arith

  pub dirty-in-range : (dirty : Bool) → InRange (with_dirty c dirty)
  dirty-in-range dirty = omega arith

  pub state-in-range : (s : ChannelState) → InRange (change_channel_state c s)
  unfolding change_channel_state
  state-in-range s = omega arith

  pub output-in-range : (level : Bool) → InRange (change_output_state c level)
  unfolding change_output_state
  output-in-range level = pins-in-range _

  pub null-in-range : (null : Bool) → InRange (with_null_count c null)
  null-in-range null = status-in-range _ r.status

  -- the output latch has what it had, or the element's value
  pub element-in-range : (e : ℕ) → e < 65536 → InRange (put_element c e)
  unfolding put_element
  element-in-range e fits =
      let held : (followed c.latch e).output_latch < 65536 =
      pick-holds (λ (l : Latch). l.output_latch < 65536) c.latch.count_is_latched c.latch _ r.held fits in
      omega arith
