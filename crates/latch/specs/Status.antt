-- Document 02, L5: the status byte, and a held status. What the 8254's sheet says of the byte is in the crate `sheet` (ReadBack.antt).
use Rattle.std.specs.Prelude.{ℕ, ◌+◌, ◌*◌, Bool, eqb}
use Rattle.numbers.specs.Flags.{flag_number}
use Rattle.channel.specs.declared.Channel.{Channel}
use Rattle.channel.specs.declared.RwMode.{RwMode}
use Rattle.channel.specs.declared.RwMode.TheVariants.{Lsb, Msb, LsbMsb}
use Rattle.channel.specs.Modes.{mode_number}
use Rattle.channel.specs.Record.{with_status}

-- "access as in a control byte": 1 low, 2 high, 3 low then high
abbrev pub access_number : RwMode → ℕ
access_number Lsb = 1
access_number Msb = 2
access_number LsbMsb = 3

-- "bit 7 output, bit 6 null count, bits 5-4 access, bits 3-1 mode, bit 0 BCD"; "The status shows the mode as stored, 0 to 5."
unfoldable pub status_byte : Channel → ℕ
status_byte c =
    flag_number c.pins.output * 128 + flag_number c.status.null_count * 64 + access_number c.control.rw_mode * 16
    + mode_number c.control.mode * 2 + flag_number c.control.bcd_mode

-- no status is held: 0 stands for none, and no status byte is 0 (`status-never-0`)
abbrev pub no_status : Channel → Bool
no_status c = eqb c.status.status_latch 0

-- the status latch with a byte, or with 0 for none
abbrev pub with_status_latch : Channel → ℕ → Channel
with_status_latch c byte = with_status c (record { status_latch = byte; null_count = c.status.null_count })
