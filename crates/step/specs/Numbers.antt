-- Document 01, "Numbers on both sides": "Proved, one statement over all (BCD unless said)". Those marked as run only are shown by programs.
use Rattle.std.specs.Prelude.{true, false, ◌≡◌}
use Rattle.refusal.specs.Reply.{accepted}
use Rattle.channel.specs.declared.ChannelMode.TheVariants.{RateGenerator}
use Rattle.channel.specs.declared.PitType.{PitType}
use Rattle.channel.specs.declared.RwMode.TheVariants.{LsbMsb}
use Rattle.control.specs.declared.Command.TheVariants.{SetMode}
use Rattle.control.specs.Control.{command_of}
use Rattle.count.specs.Step.{step_in}
use Rattle.time.specs.Time.{ticks_from_time}

pub record ProvedNumbers : Type 0 where
  -- "0x0000 to 0x9999; 0x0001 to 0x0000; 0x0010 to 0x0009; 0x0100 to 0x0099; 0x1000 to 0x0999; 0x00A0 to 0x0099"
  pub from-0000 : step_in true 0x0000 ≡ 0x9999
  pub from-0001 : step_in true 0x0001 ≡ 0x0000
  pub from-0010 : step_in true 0x0010 ≡ 0x0009
  pub from-0100 : step_in true 0x0100 ≡ 0x0099
  pub from-1000 : step_in true 0x1000 ≡ 0x0999
  pub from-00_a0 : step_in true 0x00A0 ≡ 0x0099
  -- "binary 0 to 0xFFFF; binary 0x0100 to 0x00FF"
  pub binary-from-0 : step_in false 0 ≡ 0xFFFF
  pub binary-from-0100 : step_in false 0x0100 ≡ 0x00FF
  -- "warp 0, remainder 0 divisor 12 ticks 11: 0 left 11; ticks 12: 1 left 0; remainder 11 ticks 25: 3 left 0"
  pub ticks-11 : ticks_from_time 11 0 0 12 ≡ accepted (record { ticks = 0; remainder = 11 })
  pub ticks-12 : ticks_from_time 12 0 0 12 ≡ accepted (record { ticks = 1; remainder = 0 })
  pub ticks-25 : ticks_from_time 25 0 11 12 ≡ accepted (record { ticks = 3; remainder = 0 })
  -- "control 0x34: channel 0, both bytes, mode 2, binary"
  pub control-34 : (model : PitType) → command_of model 0x34 ≡ SetMode 0 (record { mode = RateGenerator; rw_mode = LsbMsb; bcd_mode = false })
