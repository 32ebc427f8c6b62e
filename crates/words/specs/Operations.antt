-- An operation of a trace in words. Ports and written bytes are two hex digits, all other numbers decimal.
use Rattle.std.specs.Prelude.{ℕ, ◌-◌, Bool, cond, List, [], ◌++◌, eqb, ltb}
use Rattle.channel.specs.declared.PitType.{PitType}
use Rattle.control.specs.Control.{command_of}
use Rattle.trace.specs.declared.operation.Operation.{Operation}
use Rattle.trace.specs.declared.operation.Operation.TheVariants.{WritePort, ReadPort, SetChannelGate, Counts, LoadCycle, CatchUp, Run, Reset, WorkOff}
use Rattle.text.specs.Ascii.{ascii}
use Rattle.text.specs.Number.{decimal, hex}
use Rattle.words.specs.Commands.{command_words}

-- 01: "The data port numbers are the IBM PC's: 0x40, 0x41, 0x42.": the channel of a data port, and words behind it. Of any other port nothing is said
abbrev pub data_port_words : ℕ → List ℕ → List ℕ
data_port_words port behind =
    cond (ltb port 0x40) []
    (cond (ltb 0x42 port) []
    (ascii " ; channel " ++ decimal (port - 0x40) ++ behind))

-- what a byte written to a port is: at 0x43 a command, at a data port data
abbrev pub written_words : PitType → ℕ → ℕ → List ℕ
written_words model port byte = cond (eqb port 0x43) (command_words (command_of model byte)) (data_port_words port (ascii ", data"))

abbrev pub write_words : PitType → ℕ → ℕ → List ℕ
write_words model port byte = ascii "write " ++ hex port ++ ascii " " ++ hex byte ++ written_words model port byte

abbrev pub read_words : ℕ → List ℕ
read_words port = ascii "read " ++ hex port ++ data_port_words port []

abbrev pub level_words : Bool → List ℕ
level_words level = cond level (ascii " high") (ascii " low")

abbrev pub gate_words : ℕ → Bool → List ℕ
gate_words channel level = ascii "set gate of channel " ++ decimal channel ++ level_words level

abbrev pub counts_words : ℕ → ℕ → List ℕ
counts_words channel number = ascii "count channel " ++ decimal channel ++ ascii ", " ++ decimal number ++ ascii " times"

abbrev pub load_words : ℕ → List ℕ
load_words channel = ascii "load cycle of channel " ++ decimal channel

abbrev pub catch_up_words : ℕ → List ℕ
catch_up_words ticks = ascii "catch up " ++ decimal ticks ++ ascii " system ticks"

abbrev pub run_words : ℕ → List ℕ
run_words ticks = ascii "run " ++ decimal ticks ++ ascii " system ticks"

abbrev pub work_off_words : ℕ → List ℕ
work_off_words most = ascii "work off at most " ++ decimal most ++ ascii " owed ticks"

-- each operation in its words. The model tells what a written command asks for: only the 8254 has a read-back
unfoldable pub operation_words : PitType → Operation → List ℕ
operation_words model (WritePort port byte) = write_words model port byte
operation_words model (ReadPort port) = read_words port
operation_words model (SetChannelGate channel level) = gate_words channel level
operation_words model (Counts channel number) = counts_words channel number
operation_words model (LoadCycle channel) = load_words channel
operation_words model (CatchUp ticks) = catch_up_words ticks.0
operation_words model (Run ticks) = run_words ticks.0
operation_words model Reset = ascii "reset"
operation_words model (WorkOff most) = work_off_words most
