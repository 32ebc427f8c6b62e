-- Two boards have equal bytes exactly if they are equal. Assumes nothing.
use mathlib.Core.Logic.{◌↔◌}
use mathlib.Core.Path.{◌≡◌, ap}
use Rattle.board.specs.declared.Board.{Board}
use Rattle.board_encoding.specs.Stored.{board_bytes}
use Rattle.board_encoding.specs.Range.{BoardInRange}
use Rattle.board_encoding.proofs.Back.{stored-alike}

pub equal-exactly : (b d : Board) → BoardInRange b → BoardInRange d → (board_bytes b ≡ board_bytes d) ↔ (b ≡ d)
equal-exactly b d rb rd = (stored-alike b d rb rd, ap board_bytes)
