-- How many bytes a stored board has. Assumes nothing.
use mathlib.Core.Path.{◌≡◌}
use lib.ListN.{length, length-append}
use Rattle.board.specs.declared.Board.{Board}
use Rattle.encoding.proofs.Length as record-length
use Rattle.board_encoding.specs.Places.{board_size}
use Rattle.board_encoding.specs.Stored.{board_bytes}

pub bytes-length : (b : Board) → length (board_bytes b) ≡ board_size
unfolding board_bytes
bytes-length b = simp (length-append, record-length.bytes-length)
