-- One tick of the board: docs/TICK.md, "The board".
use Rattle.std.specs.Prelude.{ℕ, ◌-◌, [], ◌∷◌, Option}
use Rattle.channel.specs.declared.Channel.{Channel}
use Rattle.event.specs.declared.Event.{Event}
use Rattle.event.specs.Event.{level_event}
use Rattle.board.specs.declared.Board.{Board}
use Rattle.board.specs.Board.{channel_at}
use Rattle.tick.specs.Tick.{tick}

-- a channel of the board, one tick later
abbrev pub ticked_at : Board → ℕ → Channel
ticked_at b n = tick b.model (channel_at b n)

-- "one tick of channels 0, 1, 2", and one tick fewer is owed
unfoldable pub board_tick : Board → Board
board_tick b =
    record {
      channels = ticked_at b 0 ∷ ticked_at b 1 ∷ ticked_at b 2 ∷ [];
      model = b.model;
      divisor = b.divisor;
      remainder = b.remainder;
      warp = b.warp;
      defer = b.defer;
      owed = record { 0 = b.owed.0 - 1 };
    }

-- the event of a channel in a tick of the board: its "output level after it differs from before"
abbrev pub tick_event : Board → ℕ → Option Event
tick_event b n = level_event n (channel_at b n) (ticked_at b n)
