-- A data write keeps the count and the latch, complete or not. Assumes nothing.
use Prim.Native.Nat.{ℕ}
use mathlib.Core.Path.{refl}
use mathlib.Core.Bool.{Bool, false}
use Rattle.channel.specs.declared.Channel.{Channel}
use Rattle.channel.specs.declared.ChannelState.TheVariants.{WaitingForReload}
use Rattle.channel.specs.declared.LoadState.{LoadState}
use Rattle.channel.specs.declared.LoadState.TheVariants.{WaitingForMsb}
use Rattle.channel.specs.declared.LoadType.{LoadType}
use Rattle.channel.specs.declared.LoadType.TheVariants.{InitialLoad, SubsequentLoad}
use Rattle.channel.specs.declared.RwMode.{RwMode}
use Rattle.channel.specs.Shared.{change_output_state}
use Rattle.channel.specs.Kept.{Kept}
use Rattle.channel.proofs.Keeps.{kept_same, kept_then, kept-pick, kept-state, kept-output}
use Rattle.load.specs.Finalize.{waiting_state, first_state, loads_again, complete_load, enter_after, finalize_load}
use Rattle.load.specs.Write.{put_register, stops_on_low_byte, stopped, begun, begins_word, word_in, state_in, write_at, write_byte}

register-keeps : (c : Channel) (value : ℕ) (s : LoadState) → Kept c (put_register c value s)
unfolding put_register
register-keeps c value s = record { control-kept = refl; latch-kept = refl; element-kept = refl; status-latch-kept = refl; ticked-kept = refl }

complete-keeps : (c : Channel) → Kept c (complete_load c)
unfolding complete_load
complete-keeps c = record { control-kept = refl; latch-kept = refl; element-kept = refl; status-latch-kept = refl; ticked-kept = refl }

after-keeps : (t : LoadType) (defer : Bool) (c : Channel) → Kept c (enter_after t defer c)
after-keeps InitialLoad defer c = kept-state c (first_state c.reloading.reload_on_trigger defer)
after-keeps SubsequentLoad defer c = kept-pick (loads_again c.control.mode) (kept-state c (waiting_state defer)) (kept_same c)

pub finalize-keeps : (c : Channel) (defer : Bool) → Kept c (finalize_load c defer)
unfolding finalize_load
finalize-keeps c defer = kept_then (complete-keeps c) (after-keeps c.load.load_type defer (complete_load c))

stop-keeps : (c : Channel) → Kept c (stopped c)
stop-keeps c = kept_then (kept-output c false) (kept-state (change_output_state c false) WaitingForReload)

begun-keeps : (c : Channel) → Kept c (begun c)
begun-keeps c = kept-pick (stops_on_low_byte c.control.mode) (stop-keeps c) (kept_same c)

whole-keeps : (c : Channel) (value : ℕ) (s : LoadState) (defer : Bool) → Kept c (finalize_load (put_register c value s) defer)
whole-keeps c value s defer = kept_then (register-keeps c value s) (finalize-keeps (put_register c value s) defer)

write-at-keeps : (a : RwMode) (s : LoadState) (c : Channel) (byte : ℕ) (defer : Bool) → Kept c (write_at a s c byte defer)
write-at-keeps a s c byte defer =
    kept-pick (begins_word a s)
    (kept_then (register-keeps c byte WaitingForMsb) (begun-keeps (put_register c byte WaitingForMsb)))
    (whole-keeps c (word_in a c.load.count_register byte) (state_in a s) defer)

pub write_keeps : (c : Channel) (byte : ℕ) (defer : Bool) → Kept c (write_byte c byte defer)
unfolding write_byte
write_keeps c byte defer = write-at-keeps c.control.rw_mode c.load.load_state c byte defer
