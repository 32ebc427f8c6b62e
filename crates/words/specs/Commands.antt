-- What a byte written to the command port asks for, in words: document 01, "Control byte", and document 02, L5.
use Rattle.std.specs.Prelude.{ℕ, Bool, cond, List, [], ◌++◌}
use Rattle.channel.specs.declared.ControlWord.{ControlWord}
use Rattle.channel.specs.declared.RwMode.{RwMode}
use Rattle.channel.specs.declared.RwMode.TheVariants.{Lsb, Msb, LsbMsb}
use Rattle.channel.specs.Modes.{mode_number}
use Rattle.control.specs.declared.ReadBackWord.{ReadBackWord}
use Rattle.control.specs.declared.Command.{Command}
use Rattle.control.specs.declared.Command.TheVariants.{Nothing, LatchCount, SetMode, ReadBack}
use Rattle.control.specs.Control.{names_any}
use Rattle.text.specs.Ascii.{ascii}
use Rattle.text.specs.Number.{decimal}

abbrev pub latch_words : ℕ → List ℕ
latch_words channel = ascii " ; channel " ++ decimal channel ++ ascii ", latch the count"

-- "Access .. 1 low, 2 high, 3 low then high."
abbrev pub access_words : RwMode → List ℕ
access_words Lsb = ascii ", low only"
access_words Msb = ascii ", high only"
access_words LsbMsb = ascii ", low then high"

-- "Bit 0 BCD"
abbrev pub radix_words : Bool → List ℕ
radix_words bcd = cond bcd (ascii ", BCD") (ascii ", binary")

-- a mode set: channel, mode, access and radix
abbrev pub mode_set_words : ℕ → ControlWord → List ℕ
mode_set_words channel word =
    ascii " ; channel " ++ decimal channel ++ ascii ", mode " ++ decimal (mode_number word.mode) ++ access_words word.rw_mode
    ++ radix_words word.bcd_mode

-- L5: "latches the counts", "latches the status": whether it does the one and the other
abbrev pub latched_words : Bool → Bool → List ℕ
latched_words counts status =
    cond counts (cond status (ascii " count and status") (ascii " count"))
    (cond status (ascii " status") (ascii " nothing"))

-- a channel's number, if it is named
abbrev pub channel_if : Bool → List ℕ → List ℕ
channel_if named number = cond named number []

-- L5: "of the channels named by bits 1 to 3"
abbrev pub named_words : ReadBackWord → List ℕ
named_words word =
    cond (names_any word)
    (ascii " of channels" ++ channel_if word.names_0 (ascii " 0") ++ channel_if word.names_1 (ascii " 1")
    ++ channel_if word.names_2 (ascii " 2"))
    (ascii " of no channel")

-- a read-back: what it latches, and of which channels
abbrev pub read_back_words : ReadBackWord → List ℕ
read_back_words word = ascii " ; read back" ++ latched_words word.counts word.status ++ named_words word

-- "nothing .., latch, or mode set"; L5 adds the read-back
abbrev pub command_words : Command → List ℕ
command_words Nothing = ascii " ; no command"
command_words (LatchCount channel) = latch_words channel
command_words (SetMode channel word) = mode_set_words channel word
command_words (ReadBack word) = read_back_words word
