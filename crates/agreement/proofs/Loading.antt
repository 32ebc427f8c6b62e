-- W1: with two-byte access the count is complete with the second byte. M0, M0-8254, M4-8254: the first byte stops mode 0 with its output
-- low, and does nothing in the other modes. Assumes nothing.
use Prim.Native.Nat.{ℕ, ◌+◌, ◌*◌, ◌%◌, ◌<◌}
use mathlib.Core.Path.{◌≡◌, refl, ap, ◌∙◌}
use mathlib.Core.Bool.{Bool, false, cond}
use native.Mathlib.Omega.{arith}
use Rattle.channel.specs.declared.Channel.{Channel}
use Rattle.channel.specs.declared.ChannelMode.{ChannelMode}
use Rattle.channel.specs.declared.ChannelState.TheVariants.{WaitingForReload}
use Rattle.channel.specs.declared.ControlWord.{ControlWord}
use Rattle.channel.specs.declared.Load.{Load}
use Rattle.channel.specs.declared.LoadState.TheVariants.{WaitingForLsb, WaitingForMsb}
use Rattle.channel.specs.declared.LoadType.{LoadType}
use Rattle.channel.specs.declared.LoadType.TheVariants.{InitialLoad, SubsequentLoad}
use Rattle.channel.specs.declared.RwMode.TheVariants.{LsbMsb}
use Rattle.channel.specs.Modes.{mode_number}
use Rattle.channel.specs.Shared.{change_channel_state, change_output_state}
use Rattle.channel.specs.Queries.{get_output_state}
use Rattle.channel.proofs.Modes.{every-mode}
use Rattle.channel.proofs.Pick.{of-pick, pick_same}
use Rattle.load.specs.Finalize.{complete_load, enter_after, finalize_load}
use Rattle.load.specs.Write.{put_register, stops_on_low_byte, write_byte}
use Rattle.load.proofs.Keeps.{write_keeps}
use Rattle.sheet.specs.Loading.{count_of, first_byte_stops}

-- the state that a complete load enters is nothing to its reload value, which is the count register
after-load : (t : LoadType) (defer : Bool) (c : Channel) → (enter_after t defer c).load ≡ c.load
unfolding change_channel_state
after-load InitialLoad defer c = refl
after-load SubsequentLoad defer c = simp (of-pick (λ (d : Channel). d.load), pick_same)

reload-is-register : (c : Channel) (defer : Bool) → (finalize_load c defer).load.reload_value ≡ c.load.count_register
unfolding finalize_load complete_load
reload-is-register c defer = simp (after-load c.load.load_type defer (complete_load c))

-- what the second byte makes of the register
second-load : (c : Channel) → c.control.rw_mode ≡ LsbMsb → c.load.load_state ≡ WaitingForMsb → (high : ℕ) (defer : Bool)
    → (write_byte c high defer).load.reload_value ≡ c.load.count_register % 256 + high * 256
unfolding write_byte put_register
second-load c both waits high defer =
    simp (both, waits)
    (reload-is-register (put_register c (c.load.count_register % 256 + high * 256) WaitingForLsb) defer)

pub stops-agree : (m : ChannelMode) → stops_on_low_byte m ≡ first_byte_stops (mode_number m)
stops-agree = every-mode (λ (m : ChannelMode). stops_on_low_byte m ≡ first_byte_stops (mode_number m)) refl refl refl refl refl refl

module _ (c : Channel) (both : c.control.rw_mode ≡ LsbMsb) (begins : c.load.load_state ≡ WaitingForLsb) where
  low_load : (low : ℕ) (defer : Bool) → (write_byte c low defer).load ≡ (put_register c low WaitingForMsb).load
  unfolding write_byte put_register change_channel_state change_output_state
  low_load low defer = simp (both, begins, of-pick (λ (d : Channel). d.load), pick_same)

  low-access : (low : ℕ) (defer : Bool) → (write_byte c low defer).control.rw_mode ≡ LsbMsb
  low-access low defer = ap (λ (w : ControlWord). w.rw_mode) (write_keeps c low defer).control-kept ∙ both

  -- W1: the first byte completes nothing ..
  pub first-waits : (low : ℕ) (defer : Bool) → (write_byte c low defer).load.reload_value ≡ c.load.reload_value
  unfolding put_register
  first-waits low defer = simp (low_load low defer)

  -- .. and the second completes the count of the two
  pub second-completes : (low high : ℕ) (now later : Bool) → low < 256
      → (write_byte (write_byte c low now) high later).load.reload_value ≡ count_of low high
  unfolding put_register
  second-completes low high now later h =
      second-load (write_byte c low now) (low-access low now) (ap (λ (l : Load). l.load_state) (low_load low now)) high later
      ∙ simp (low_load low now) (omega arith)

  -- M0: "the first byte stops counting"; M4-8254: "its first byte has no effect"
  pub first-state : (low : ℕ) (defer : Bool)
      → (write_byte c low defer).counter.channel_state
      ≡ cond (first_byte_stops (mode_number c.control.mode)) WaitingForReload c.counter.channel_state
  unfolding write_byte put_register change_channel_state change_output_state
  first-state low defer = simp (both, begins, of-pick (λ (d : Channel). d.counter.channel_state), stops-agree)

  -- M0-8254: it "sets the output low at once"
  pub first-output : (low : ℕ) (defer : Bool)
      → (write_byte c low defer).pins.output ≡ cond (first_byte_stops (mode_number c.control.mode)) false c.pins.output
  unfolding write_byte put_register change_channel_state change_output_state
  first-output low defer = simp (both, begins, of-pick get_output_state, stops-agree)
