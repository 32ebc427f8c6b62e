-- Not for readers: what two functions answer that look at a part of a longer buffer. They say nothing new: where the bytes of a record are there it is `readable` and
-- `channel_spelled` (proofs/Inner.antt).
use Rattle.std.specs.Prelude.{ℕ, Bool, false, cond, List, ltb, length}
use Rattle.channel.specs.declared.Channel.{Channel}
use Rattle.channel.specs.Fresh.{fresh}
use Rattle.encoding.specs.Stored.{channel_size}
use Rattle.encoding.specs.Loaded.{readable, channel_spelled}

-- the bytes of a record are there, and readable
abbrev pub is_record : List ℕ → Bool
is_record bytes = cond (ltb (length bytes) channel_size) false (readable bytes)

-- what the code spells of any bytes: the fresh channel of too few
abbrev pub record_in : List ℕ → Channel
record_in bytes = cond (ltb (length bytes) channel_size) fresh (channel_spelled bytes)
