-- What depends on the mode, as a row of document 01's modes 0 to 5.
use Rattle.std.specs.Prelude.{ℕ, List, [], ◌∷◌, get_or}
use Rattle.channel.specs.declared.ChannelMode.{ChannelMode}
use Rattle.channel.specs.declared.ChannelMode.TheVariants.{InterruptOnTerminalCount, HardwareRetriggerableOneShot, RateGenerator, SquareWaveGenerator, SoftwareTriggeredStrobe, HardwareTriggeredStrobe}

-- the entry of a row that stands under the mode's number: modes 0, 1, 2, 3, 4, 5 in this order
abbrev pub by_mode : {A : Type 0} → A → A → A → A → A → A → ChannelMode → A
by_mode m0 m1 m2 m3 m4 m5 InterruptOnTerminalCount = m0
by_mode m0 m1 m2 m3 m4 m5 HardwareRetriggerableOneShot = m1
by_mode m0 m1 m2 m3 m4 m5 RateGenerator = m2
by_mode m0 m1 m2 m3 m4 m5 SquareWaveGenerator = m3
by_mode m0 m1 m2 m3 m4 m5 SoftwareTriggeredStrobe = m4
by_mode m0 m1 m2 m3 m4 m5 HardwareTriggeredStrobe = m5

abbrev pub mode_number : ChannelMode → ℕ
mode_number = by_mode 0 1 2 3 4 5

-- modes 0 to 4
abbrev pub first_modes : List ChannelMode
first_modes =
    InterruptOnTerminalCount ∷ HardwareRetriggerableOneShot ∷ RateGenerator ∷ SquareWaveGenerator ∷ SoftwareTriggeredStrobe ∷ []

-- the mode that a number names: any from 5 on names mode 5
abbrev pub mode_numbered : ℕ → ChannelMode
mode_numbered n = get_or first_modes n HardwareTriggeredStrobe
