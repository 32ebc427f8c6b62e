-- Document 01's words in the sheet's: a chip, an access, a command. The theorems of proofs/ hold of the two documents in these words.
use Rattle.channel.specs.declared.PitType.{PitType}
use Rattle.channel.specs.declared.PitType.TheVariants.{Model8253, Model8254}
use Rattle.channel.specs.declared.RwMode.{RwMode}
use Rattle.channel.specs.declared.RwMode.TheVariants.{Lsb, Msb, LsbMsb}
use Rattle.channel.specs.Modes.{mode_number}
use Rattle.control.specs.declared.Command.{Command}
use Rattle.control.specs.declared.Command.TheVariants.{Nothing, LatchCount, SetMode, ReadBack}
use Rattle.sheet.specs.ControlByte.{Access, low_byte, high_byte, low_then_high, Request, no_counter, latch_counter, program}
use Rattle.sheet.specs.Ticking.{Chip, chip8253, chip8254}

abbrev pub sheet_chip : PitType → Chip
sheet_chip Model8253 = chip8253
sheet_chip Model8254 = chip8254

abbrev pub sheet_access : RwMode → Access
sheet_access Lsb = low_byte
sheet_access Msb = high_byte
sheet_access LsbMsb = low_then_high

abbrev pub sheet_request : Command → Request
sheet_request Nothing = no_counter
sheet_request (LatchCount n) = latch_counter n
sheet_request (SetMode n w) = program n (sheet_access w.rw_mode) (mode_number w.mode) w.bcd_mode
sheet_request (ReadBack w) = no_counter
