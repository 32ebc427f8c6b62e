-- A board with one of its parts put in the place of another, and a channel found by its place.
use Rattle.std.specs.Prelude.{ℕ, Bool, List, get_or, set}
use Rattle.channel.specs.declared.Channel.{Channel}
use Rattle.channel.specs.Blank.{blank}
use Rattle.board.specs.declared.Board.{Board}

-- "A record holds no channel number; its place is its number."
abbrev pub channel_at : Board → ℕ → Channel
channel_at b n = get_or b.channels n blank

-- "Struct update is written out."
abbrev pub with_channels : Board → List Channel → Board
with_channels b channels =
    record {
      channels = channels;
      model = b.model;
      divisor = b.divisor;
      remainder = b.remainder;
      warp = b.warp;
      defer = b.defer;
      owed = b.owed;
    }

-- one channel's record put at its place
abbrev pub with_channel : Board → ℕ → Channel → Board
with_channel b n c = with_channels b (set b.channels n c)

-- the board with another remainder, warp and defer flag, and other ticks owed
abbrev pub with_time : Board → ℕ → ℕ → Bool → ℕ → Board
with_time b remainder warp defer owed =
    record {
      channels = b.channels;
      model = b.model;
      divisor = b.divisor;
      remainder = record { 0 = remainder };
      warp = record { 0 = warp };
      defer = defer;
      owed = record { 0 = owed };
    }

-- the board with these channels, and so many ticks owed
abbrev pub owing : Board → ℕ → List Channel → Board
owing b owed channels = with_time (with_channels b channels) b.remainder.0 b.warp.0 b.defer owed
