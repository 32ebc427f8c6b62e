-- Document 01: the port write, with refusals 1, 7, 8 in this order, and 16 of 02, L1, right after 1. "a port write itself takes no time".
use Rattle.std.specs.Prelude.{ℕ, List, Option, Some, None}
use Rattle.channel.specs.declared.ControlWord.{ControlWord}
use Rattle.control.specs.declared.Command.{Command}
use Rattle.control.specs.declared.Command.TheVariants.{Nothing, LatchCount, SetMode, ReadBack}
use Rattle.control.specs.Control.{command_of}
use Rattle.latch.specs.Latching as channel
use Rattle.mode.specs.Mode as channelMode
use Rattle.load.specs.Write.{write_byte}
use Rattle.board.specs.declared.Board.{Board}
use Rattle.board.specs.Board.{channel_at}
use Rattle.board.specs.Outcome.{Outcome, refuse, unless_owed}
use Rattle.ports.specs.declared.port.Port.{Port}
use Rattle.ports.specs.declared.port.Port.TheVariants as port
use Rattle.ports.specs.Port.{port_of}
use Rattle.ports.specs.Settle.{settle, untouched}
use Rattle.ports.specs.ReadBacks.{read_back_write}

-- "Latching copies the counting element to the output latch": the channel's own latch; no event, but refusal 7
abbrev pub latch_count : Board → ℕ → List ℕ → ℕ → Outcome
latch_count b n events place = settle b n (channel.latch_count (channel_at b n)) events place

-- the channel's own mode set, with the board's model
abbrev pub set_mode : Board → ℕ → ControlWord → List ℕ → ℕ → Outcome
set_mode b n word events place = settle b n (channelMode.set_mode (channel_at b n) word b.model) events place

-- "nothing ..., latch, or mode set", and the read-back of 02, L5
abbrev pub control_register_write : Board → Command → List ℕ → ℕ → Outcome
control_register_write b Nothing events place = untouched b events place
control_register_write b (LatchCount n) events place = latch_count b n events place
control_register_write b (SetMode n word) events place = set_mode b n word events place
control_register_write b (ReadBack word) events place = read_back_write b word events place

-- "`DeferLoadCycle` if the board's defer flag is set"
abbrev pub data_write : Board → ℕ → ℕ → List ℕ → ℕ → Outcome
data_write b n byte events place = settle b n (write_byte (channel_at b n) byte b.defer) events place

-- a byte to the port that its number names
abbrev pub write_to : Board → Option Port → ℕ → List ℕ → ℕ → Outcome
write_to b (Some (port.Data n)) byte events place = unless_owed b events (data_write b n byte events place)
write_to b (Some port.Command) byte events place = unless_owed b events (control_register_write b (command_of b.model byte) events place)
write_to b None byte events place = refuse 1 b events

-- Refusal 1: "port not 0x40 to 0x43"
unfoldable pub write_port : Board → ℕ → ℕ → List ℕ → ℕ → Outcome
write_port b port byte events place = write_to b (port_of port) byte events place
