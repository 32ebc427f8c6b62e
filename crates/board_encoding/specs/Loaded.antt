-- docs/ENCODING.md, "A board": which bytes are readable, and the board that they spell.
use Rattle.std.specs.Prelude.{ℕ, ◌≤◌, Bool, true, ◌&&◌, ◌||◌, not, List, [], ◌∷◌, ◌≡◌, eqb, ltb, length, get_or, take, drop}
use Rattle.numbers.specs.Number.{number_at}
use Rattle.channel.specs.Models.{model_numbered}
use Rattle.encoding.specs.Stored.{channel_size}
use Rattle.encoding.specs.Loaded.{readable, channel_spelled}
use Rattle.board.specs.declared.Board.{Board}
use Rattle.board_encoding.specs.Places.{record_place, model_place, divisor_place, remainder_place, warp_place, defer_place, owed_place, board_size}

-- the bytes of a channel's record
abbrev pub record_part : List ℕ → ℕ → List ℕ
record_part bytes n = take channel_size (drop (record_place n) bytes)

-- "the bytes at places 93 and 106 are at most their limits": model and defer flag
abbrev pub own_readable : List ℕ → Bool
own_readable bytes = not (ltb 1 (get_or bytes model_place 0) || ltb 1 (get_or bytes defer_place 0))

-- "A board is readable when its three records are and the bytes at places 93 and 106 are at most their limits."
unfoldable pub board_readable : List ℕ → Bool
board_readable bytes =
    (readable (record_part bytes 0) && readable (record_part bytes 1)) && (readable (record_part bytes 2) && own_readable bytes)

-- the board that readable bytes spell
unfoldable pub board_in : List ℕ → Board
board_in bytes =
    record {
      channels = channel_spelled (record_part bytes 0) ∷ channel_spelled (record_part bytes 1) ∷ channel_spelled (record_part bytes 2) ∷ [];
      model = model_numbered (get_or bytes model_place 0);
      divisor = number_at bytes divisor_place;
      remainder = record { 0 = number_at bytes remainder_place };
      warp = record { 0 = number_at bytes warp_place };
      defer = eqb (get_or bytes defer_place 0) 1;
      owed = record { 0 = number_at bytes owed_place };
    }

-- bytes that hold a board
pub record HoldsBoard (bytes : List ℕ) : Type 0 where
  pub long : board_size ≤ length bytes
  pub within : board_readable bytes ≡ true
