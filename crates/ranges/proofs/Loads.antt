-- The rules of a load, a byte written and a load cycle by hand, leave a channel's numbers in their fields: the register takes one byte or two, the reload value is the register, and the
-- element takes at most the reload value. Assumes nothing.
use Prim.Native.Nat.{ℕ, ◌<◌}
use mathlib.Core.Bool.{Bool, true, false}
use native.Mathlib.Omega.{arith}
use Rattle.channel.specs.declared.Channel.{Channel}
use Rattle.channel.specs.declared.ChannelState.{ChannelState}
use Rattle.channel.specs.declared.ChannelState.TheVariants.{WaitingForReload, WaitingForGate, DeferLoadCycle, WaitingForLoadCycle, WaitingForLoadTrigger, Counting}
use Rattle.channel.specs.declared.LoadState.{LoadState}
use Rattle.channel.specs.declared.LoadState.TheVariants.{WaitingForMsb}
use Rattle.channel.specs.declared.LoadType.{LoadType}
use Rattle.channel.specs.declared.LoadType.TheVariants.{InitialLoad, SubsequentLoad}
use Rattle.channel.specs.declared.ReloadFlag.TheVariants.{Normal}
use Rattle.channel.specs.declared.RwMode.{RwMode}
use Rattle.channel.specs.declared.RwMode.TheVariants.{Lsb, Msb, LsbMsb}
use Rattle.channel.proofs.Pick.{pick-holds}
use Rattle.encoding.specs.Range.{InRange}
use Rattle.load.specs.Finalize.{completed, complete_load, waiting_state, first_state, loads_again, enter_after, finalize_load}
use Rattle.load.specs.Write.{put_register, stops_on_low_byte, stopped, begun, begins_word, word_in, state_in, write_at, write_byte}
use Rattle.load.specs.Cycle.{load_value, moved, cycle_in, load_cycle}
use Rattle.load.proofs.Value.{value-at-most}
use Rattle.ranges.proofs.Parts.{load-in-range, dirty-in-range, state-in-range, output-in-range, null-in-range, element-in-range}

register-in-range : (c : Channel) → InRange c → (value : ℕ) → value < 65536 → (s : LoadState) → InRange (put_register c value s)
unfolding put_register
register-in-range c r value fits s = load-in-range c r _ fits r.reload

complete-in-range : (c : Channel) → InRange c → InRange (complete_load c)
unfolding complete_load
complete-in-range c r = null-in-range _ (dirty-in-range _ (load-in-range c r (completed c.load) r.register r.register) true) true

after-in-range : (t : LoadType) (defer : Bool) (c : Channel) → InRange c → InRange (enter_after t defer c)
after-in-range InitialLoad defer c r = state-in-range c r (first_state c.reloading.reload_on_trigger defer)
after-in-range SubsequentLoad defer c r = pick-holds InRange (loads_again c.control.mode) _ c (state-in-range c r (waiting_state defer)) r

finalize-in-range : (c : Channel) (defer : Bool) → InRange c → InRange (finalize_load c defer)
unfolding finalize_load
finalize-in-range c defer r = after-in-range c.load.load_type defer _ (complete-in-range c r)

begun-in-range : (c : Channel) → InRange c → InRange (begun c)
begun-in-range c r =
    pick-holds InRange (stops_on_low_byte c.control.mode) (stopped c) c (state-in-range _ (output-in-range c r false) WaitingForReload) r

-- a register of two bytes
word_fits : (a : RwMode) (register byte : ℕ) → byte < 256 → word_in a register byte < 65536
word_fits Lsb register byte fits = omega arith
word_fits Msb register byte fits = omega arith
word_fits LsbMsb register byte fits = omega arith

at-in-range : (a : RwMode) (s : LoadState) (c : Channel) (byte : ℕ) (defer : Bool) → byte < 256 → InRange c → InRange (write_at a s c byte defer)
at-in-range a s c byte defer fits r =
    pick-holds InRange (begins_word a s) _ _ (begun-in-range _ (register-in-range c r byte (omega arith) WaitingForMsb))
    (finalize-in-range _ defer
    (register-in-range c r (word_in a c.load.count_register byte) (word_fits a c.load.count_register byte fits) (state_in a s)))

pub write-in-range : (c : Channel) (byte : ℕ) (defer : Bool) → byte < 256 → InRange c → InRange (write_byte c byte defer)
unfolding write_byte
write-in-range c byte defer = at-in-range c.control.rw_mode c.load.load_state c byte defer

-- the value moves
pub moved-in-range : (c : Channel) → InRange c → InRange (moved c)
moved-in-range c r =
    null-in-range _ (state-in-range _ (element-in-range c r (load_value c) (omega (arith, value-at-most c, r.reload))) (Counting Normal)) false

cycle-in : (s : ChannelState) (c : Channel) → InRange c → InRange (cycle_in s c)
cycle-in WaitingForReload c r = r
cycle-in WaitingForGate c r = r
cycle-in DeferLoadCycle c r = state-in-range c r WaitingForLoadCycle
cycle-in WaitingForLoadCycle c r = moved-in-range c r
cycle-in WaitingForLoadTrigger c r = r
cycle-in (Counting f) c r = r

pub cycle-in-range : (c : Channel) → InRange c → InRange (load_cycle c)
unfolding load_cycle
cycle-in-range c = cycle-in c.counter.channel_state c
