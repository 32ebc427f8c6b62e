-- What a load moves, for those who use it: the reload value whole in every mode but 3, masked by the record's mask in mode 3, never more than the reload value; and
-- records with the same mode, reload value and mask load the same. Assumes nothing.
use Prim.Native.Nat.{ℕ, ◌≤◌}
use mathlib.Core.Path.{◌≡◌, refl}
use native.Mathlib.Omega.{arith}
use lib.Bits.{bit_and, and_le_l}
use Rattle.channel.specs.declared.Channel.{Channel}
use Rattle.channel.specs.declared.ChannelMode.{ChannelMode}
use Rattle.channel.specs.declared.ChannelMode.TheVariants.{SquareWaveGenerator}
use Rattle.channel.proofs.Modes.{every-mode, outside-three}
use Rattle.load.specs.Cycle.{masked_in, load_value}

module _ (c : Channel) where
  pub value-whole : (c.control.mode ≡ SquareWaveGenerator → ⊥) → load_value c ≡ c.load.reload_value
  unfolding load_value
  value-whole = outside-three c.load.reload_value (bit_and c.load.reload_value c.reloading.load_mask) c.control.mode

  pub value-masked : c.control.mode ≡ SquareWaveGenerator → load_value c ≡ bit_and c.load.reload_value c.reloading.load_mask
  unfolding load_value
  value-masked square = rw square refl

at_most_in : (value mask : ℕ) (m : ChannelMode) → masked_in m value mask ≤ value
at_most_in value mask =
    every-mode (λ (m : ChannelMode). masked_in m value mask ≤ value)
    (omega arith) (omega arith) (omega arith) (and_le_l value mask) (omega arith) (omega arith)

pub value-at-most : (c : Channel) → load_value c ≤ c.load.reload_value
unfolding load_value
value-at-most c = at_most_in c.load.reload_value c.reloading.load_mask c.control.mode

pub value-alike : (c d : Channel) → d.control.mode ≡ c.control.mode → d.load.reload_value ≡ c.load.reload_value
    → d.reloading.load_mask ≡ c.reloading.load_mask → load_value d ≡ load_value c
unfolding load_value
value-alike c d mode reload mask = simp (mode, reload, mask)
