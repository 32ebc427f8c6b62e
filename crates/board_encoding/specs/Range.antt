-- A board of three channels whose numbers are those that its fields can hold. Every board of a program is one: the fields' types say so.
use Rattle.std.specs.Prelude.{◌<◌, ◌≡◌, length}
use Rattle.encoding.specs.Range.{InRange}
use Rattle.board.specs.declared.Board.{Board}
use Rattle.board.specs.Board.{channel_at}

pub record BoardInRange (b : Board) : Type 0 where
  pub three : length b.channels ≡ 3
  pub first : InRange (channel_at b 0)
  pub second : InRange (channel_at b 1)
  pub third : InRange (channel_at b 2)
  pub divisor : b.divisor < 4294967296
  pub remainder : b.remainder.0 < 4294967296
  pub warp : b.warp.0 < 4294967296
  pub owed : b.owed.0 < 4294967296
