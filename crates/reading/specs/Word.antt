-- A channel's record latched and read twice: what `read_count` does to the record that it is asked about.
use Rattle.std.specs.Prelude.{ℕ, ◌+◌, ◌*◌}
use Rattle.channel.specs.declared.Channel.{Channel}
use Rattle.latch.specs.declared.reading.ByteRead.{ByteRead}
use Rattle.latch.specs.Latching.{latch_count}
use Rattle.latch.specs.Reading.{read_byte}

-- the two bytes as a number, and the record as the reads leave it
pub record WordRead : Type 0 where
  pub word : ℕ
  pub channel : Channel

-- two bytes as one number, the low byte first
abbrev pub word : ℕ → ℕ → ℕ
word low high = low + high * 256

-- the record after a first read is read again
abbrev pub read_again : ByteRead → WordRead
read_again first = record { word = word first.byte (read_byte first.channel).byte; channel = (read_byte first.channel).channel }

unfoldable pub read_word : Channel → WordRead
read_word c = read_again (read_byte (latch_count c))
