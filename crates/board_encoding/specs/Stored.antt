-- docs/ENCODING.md, "A board": the three records, then what the board itself holds.
use Rattle.std.specs.Prelude.{ℕ, Bool, List, ◌∷◌, ◌++◌}
use Rattle.numbers.specs.Flags.{flag_number}
use Rattle.numbers.specs.Little.{four_bytes}
use Rattle.channel.specs.Models.{model_number}
use Rattle.encoding.specs.Stored.{channel_bytes}
use Rattle.board.specs.declared.Board.{Board}
use Rattle.board.specs.Board.{channel_at}

-- model and divisor, which a board is made with
abbrev pub settings_bytes : Board → List ℕ
settings_bytes b = model_number b.model ∷ four_bytes b.divisor

-- remainder, warp, defer flag, owed ticks
abbrev pub time_bytes : ℕ → ℕ → Bool → ℕ → List ℕ
time_bytes remainder warp defer owed = four_bytes remainder ++ four_bytes warp ++ flag_number defer ∷ four_bytes owed

-- "The three records one after another, then what the board itself holds."
unfoldable pub board_bytes : Board → List ℕ
board_bytes b =
    channel_bytes (channel_at b 0) ++ channel_bytes (channel_at b 1) ++ channel_bytes (channel_at b 2) ++ settings_bytes b
    ++ time_bytes b.remainder.0 b.warp.0 b.defer b.owed.0
