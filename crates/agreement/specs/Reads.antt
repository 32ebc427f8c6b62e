-- Reads of document 01 made one after another.
use Rattle.std.specs.Prelude.{ℕ, zero, suc, List, [], ◌∷◌}
use Rattle.channel.specs.declared.Channel.{Channel}
use Rattle.latch.specs.Reading.{read_byte}

-- the bytes of k reads in a row, and the channel after them
abbrev pub bytes_read : ℕ → Channel → List ℕ
bytes_read zero c = []
bytes_read (suc k) c = (read_byte c).byte ∷ bytes_read k (read_byte c).channel

abbrev pub after_reads : ℕ → Channel → Channel
after_reads zero c = c
after_reads (suc k) c = after_reads k (read_byte c).channel
