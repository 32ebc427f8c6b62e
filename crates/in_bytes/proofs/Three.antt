-- A board in bytes has three channels. Assumes nothing.
use Prim.Native.Nat.{ℕ}
use mathlib.Core.List.{List, [], ◌∷◌}
use mathlib.Core.Path.{◌≡◌, refl}
use Rattle.board.specs.Board.{channel_at}
use Rattle.board_encoding.specs.Loaded.{board_in}

pub three : (bytes : List ℕ) → (board_in bytes).channels ≡ channel_at (board_in bytes) 0 ∷ channel_at (board_in bytes) 1 ∷ channel_at (board_in bytes) 2 ∷ []
unfolding board_in
three bytes = refl
