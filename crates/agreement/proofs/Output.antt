-- O1: the output after document 01's mode set is the sheet's. Assumes nothing.
use mathlib.Core.Path.{◌≡◌, refl}
use Rattle.channel.specs.declared.Channel.{Channel}
use Rattle.channel.specs.declared.ChannelMode.{ChannelMode}
use Rattle.channel.specs.declared.ControlWord.{ControlWord}
use Rattle.channel.specs.declared.PitType.{PitType}
use Rattle.channel.specs.Modes.{mode_number}
use Rattle.channel.proofs.Modes.{every-mode}
use Rattle.mode.specs.Mode.{output_after, set_mode}
use Rattle.sheet.specs.Output.{output_after_mode_set}

pub output-agrees : (c : Channel) (w : ControlWord) (model : PitType)
    → (set_mode c w model).pins.output ≡ output_after_mode_set (mode_number w.mode)
unfolding set_mode
output-agrees c w model =
    every-mode (λ (m : ChannelMode). output_after m ≡ output_after_mode_set (mode_number m)) refl refl refl refl refl refl w.mode
