-- What holds in each of the six modes holds in every mode; and a row that has one entry but under mode 3 gives that entry in the others. Assumes nothing.
use mathlib.Core.Path.{◌≡◌, refl}
use Rattle.channel.specs.declared.ChannelMode.{ChannelMode}
use Rattle.channel.specs.declared.ChannelMode.TheVariants.{InterruptOnTerminalCount, HardwareRetriggerableOneShot, RateGenerator, SquareWaveGenerator, SoftwareTriggeredStrobe, HardwareTriggeredStrobe}
use Rattle.channel.specs.Modes.{by_mode}

pub every-mode : (P : ChannelMode → Type 0)
    → P InterruptOnTerminalCount → P HardwareRetriggerableOneShot → P RateGenerator
    → P SquareWaveGenerator → P SoftwareTriggeredStrobe → P HardwareTriggeredStrobe
    → (m : ChannelMode) → P m
every-mode P p0 p1 p2 p3 p4 p5 InterruptOnTerminalCount = p0
every-mode P p0 p1 p2 p3 p4 p5 HardwareRetriggerableOneShot = p1
every-mode P p0 p1 p2 p3 p4 p5 RateGenerator = p2
every-mode P p0 p1 p2 p3 p4 p5 SquareWaveGenerator = p3
every-mode P p0 p1 p2 p3 p4 p5 SoftwareTriggeredStrobe = p4
every-mode P p0 p1 p2 p3 p4 p5 HardwareTriggeredStrobe = p5

pub outside-three : {A : Type 0} (x y : A) (m : ChannelMode) → (m ≡ SquareWaveGenerator → ⊥) → by_mode x x x y x x m ≡ x
outside-three x y InterruptOnTerminalCount other = refl
outside-three x y HardwareRetriggerableOneShot other = refl
outside-three x y RateGenerator other = refl
outside-three x y SquareWaveGenerator other = absurd (other refl)
outside-three x y SoftwareTriggeredStrobe other = refl
outside-three x y HardwareTriggeredStrobe other = refl
