-- Document 01, "Control byte": what a byte written to the command port asks for; document 02, L5, for channel 3 on the 8254.
use Rattle.std.specs.Prelude.{ℕ, zero, suc, ◌-◌, ◌/◌, ◌%◌, Bool, false, cond, ◌||◌, eqb, ltb}
use Rattle.channel.specs.declared.ControlWord.{ControlWord}
use Rattle.channel.specs.declared.ChannelMode.{ChannelMode}
use Rattle.channel.specs.Modes.{mode_numbered}
use Rattle.channel.specs.declared.RwMode.{RwMode}
use Rattle.channel.specs.declared.RwMode.TheVariants.{Lsb, Msb, LsbMsb}
use Rattle.channel.specs.declared.PitType.{PitType}
use Rattle.channel.specs.declared.PitType.TheVariants.{Model8253, Model8254}
use Rattle.control.specs.declared.ReadBackWord.{ReadBackWord}
use Rattle.control.specs.declared.Command.{Command}
use Rattle.control.specs.declared.Command.TheVariants.{Nothing, LatchCount, SetMode, ReadBack}

-- "Bit 0 BCD, bits 1-3 mode, bits 4-5 access, bits 6-7 channel."
abbrev pub bcd_bit : ℕ → Bool
bcd_bit byte = eqb (byte % 2) 1

abbrev pub mode_bits : ℕ → ℕ
mode_bits byte = byte / 2 % 8

abbrev pub access_bits : ℕ → ℕ
access_bits byte = byte / 16 % 4

abbrev pub channel_bits : ℕ → ℕ
channel_bits byte = byte / 64

-- "Modes 6 and 7 mean 2 and 3"
abbrev pub mode_of : ℕ → ChannelMode
mode_of n = cond (ltb 5 n) (mode_numbered (n - 4)) (mode_numbered n)

-- "Access 0 latch, 1 low, 2 high, 3 low then high."
abbrev pub access_of : ℕ → RwMode
access_of n = cond (eqb n 1) Lsb (cond (eqb n 2) Msb LsbMsb)

-- what a mode set carries
abbrev pub control_word : ℕ → ControlWord
control_word byte =
    record { mode = mode_of (mode_bits byte); rw_mode = access_of (access_bits byte); bcd_mode = bcd_bit byte }

-- L5: "bit 5 clear latches the counts, bit 4 clear latches the status, of the channels named by bits 1 to 3"
abbrev pub read_back_of : ℕ → ReadBackWord
read_back_of byte =
    record {
      counts = eqb (byte / 32 % 2) 0;
      status = eqb (byte / 16 % 2) 0;
      names_0 = eqb (byte / 2 % 2) 1;
      names_1 = eqb (byte / 4 % 2) 1;
      names_2 = eqb (byte / 8 % 2) 1;
    }

-- "of the channels named by bits 1 to 3": whether channel n is
abbrev pub names : ReadBackWord → ℕ → Bool
names word zero = word.names_0
names word (suc zero) = word.names_1
names word (suc (suc zero)) = word.names_2
names word (suc (suc (suc n))) = false

-- it names at least one
abbrev pub names_any : ReadBackWord → Bool
names_any word = word.names_0 || (word.names_1 || word.names_2)

-- L5: "A byte with bit 0 set changes nothing. On the 8253 all of these still do nothing."
abbrev pub channel_three : PitType → ℕ → Command
channel_three Model8253 byte = Nothing
channel_three Model8254 byte = cond (eqb (byte % 2) 1) Nothing (ReadBack (read_back_of byte))

-- "taken apart into one of three commands: nothing (channel 3 ...), latch, or mode set"; L5 adds the read-back
unfoldable pub command_of : PitType → ℕ → Command
command_of model byte =
    cond (eqb (channel_bits byte) 3) (channel_three model byte)
    (cond (eqb (access_bits byte) 0) (LatchCount (channel_bits byte))
    (SetMode (channel_bits byte) (control_word byte)))
