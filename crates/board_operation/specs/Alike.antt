-- docs/ENCODING.md: a read answers the same three numbers and leaves the same record, whether a host keeps a channel's record or a board. Proved in proofs/Alike.antt.
use Rattle.std.specs.Prelude.{ℕ, ◌+◌, ◌<◌, List, ◌≡◌}
use Rattle.board.specs.declared.Board.{Board}
use Rattle.board.specs.Board.{channel_at, with_channel}
use Rattle.channel_operation.specs.declared.Operation.TheVariants.{ReadByte}
use Rattle.channel_operation.specs.declared.making.Made.{Made}
use Rattle.channel_operation.specs.Made as channel
use Rattle.board_operation.specs.declared.Operation.TheVariants.{ReadPort}
use Rattle.board_operation.specs.Made.{numbered, operate}

-- a read of channel i's record
abbrev pub read_alone : Board → ℕ → Made
read_alone b i = channel.operate (channel_at b i) ReadByte

abbrev pub ReadsAlike : Type 0
ReadsAlike =
    (b : Board) (i : ℕ) → i < 3 → (events : List ℕ) (place : ℕ)
    → operate b (ReadPort (0x40 + i)) events place
    ≡ record {
      numbers = numbered 0 (read_alone b i).first (read_alone b i).second (read_alone b i).third;
      board = with_channel b i (read_alone b i).channel;
      events = events;
    }
