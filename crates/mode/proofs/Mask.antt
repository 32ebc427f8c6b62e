-- "Only mode 3 sets the load mask": what a mode set leaves of it. Assumes nothing.
use mathlib.Core.Path.{◌≡◌, refl}
use Rattle.channel.specs.declared.Channel.{Channel}
use Rattle.channel.specs.declared.ChannelMode.TheVariants.{SquareWaveGenerator}
use Rattle.channel.specs.declared.ControlWord.{ControlWord}
use Rattle.channel.specs.declared.PitType.{PitType}
use Rattle.channel.proofs.Modes.{outside-three}
use Rattle.mode.specs.Mode.{square_mask, set_mode}

module _ (c : Channel) (word : ControlWord) (model : PitType) where
  pub mask-set : word.mode ≡ SquareWaveGenerator → (set_mode c word model).reloading.load_mask ≡ square_mask model
  unfolding set_mode
  mask-set square = rw square refl

  pub mask-stays : (word.mode ≡ SquareWaveGenerator → ⊥) → (set_mode c word model).reloading.load_mask ≡ c.reloading.load_mask
  unfolding set_mode
  mask-stays = outside-three c.reloading.load_mask (square_mask model) word.mode
