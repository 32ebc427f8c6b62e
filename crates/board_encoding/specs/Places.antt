-- docs/ENCODING.md, "A board: 111 bytes": where each line of the table begins, behind the one before.
use Rattle.std.specs.Prelude.{ℕ, ◌+◌, ◌*◌}
use Rattle.encoding.specs.Stored.{channel_size}

-- "The three records one after another", by the channel's number
abbrev pub record_place : ℕ → ℕ
record_place n = channel_size * n

-- "then what the board itself holds": the model is a byte
abbrev pub model_place : ℕ
model_place = record_place 3

abbrev pub divisor_place : ℕ
divisor_place = model_place + 1

abbrev pub remainder_place : ℕ
remainder_place = divisor_place + 4

abbrev pub warp_place : ℕ
warp_place = remainder_place + 4

-- a flag is a byte
abbrev pub defer_place : ℕ
defer_place = warp_place + 4

abbrev pub owed_place : ℕ
owed_place = defer_place + 1

abbrev pub board_size : ℕ
board_size = owed_place + 4
