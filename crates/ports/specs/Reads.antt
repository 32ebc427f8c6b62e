-- Document 01: the port read, with refusal 1; and what document 02's L3 has it say of the byte.
use Rattle.std.specs.Prelude.{ℕ, [], Option, Some, None}
use Rattle.latch.specs.declared.label.Label.{Label}
use Rattle.latch.specs.declared.reading.ByteRead.{ByteRead}
use Rattle.latch.specs.Label.{label_of, command_label}
use Rattle.latch.specs.Reading.{read_byte}
use Rattle.board.specs.declared.Board.{Board}
use Rattle.board.specs.Board.{channel_at, with_channel}
use Rattle.board.specs.Outcome.{Outcome, byte, refuse, accept}
use Rattle.ports.specs.declared.port.Port.{Port}
use Rattle.ports.specs.declared.port.Port.TheVariants.{Data, Command}
use Rattle.ports.specs.Port.{port_of}

-- the byte with what is said of it, and the record that the read leaves, at its place
abbrev pub read_into : Board → ℕ → Label → ByteRead → Outcome
read_into b n label r = accept (byte (record { byte = r.byte; label = label })) (with_channel b n r.channel)

-- "Reads come from the output latch": the channel's own read (latch/specs/Reading.antt), and what it says of the byte (latch/specs/Label.antt); "Board and bytes
-- stay as they were."
abbrev pub data_read : Board → ℕ → Outcome
data_read b n = read_into b n (label_of (channel_at b n)) (read_byte (channel_at b n))

-- "The command port reads 0.", and no channel is asked what to say of it
abbrev pub read_from : Board → Option Port → Outcome
read_from b (Some (Data n)) = data_read b n
read_from b (Some Command) = accept (byte (record { byte = 0; label = command_label })) b
read_from b None = refuse 1 b []

-- Refusal 1: "port not 0x40 to 0x43"
unfoldable pub read_port : Board → ℕ → Outcome
read_port b port = read_from b (port_of port)
