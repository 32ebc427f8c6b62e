-- Document 01, "Counting, latch and reading" and the added load cycle, on one channel of a board.
use Rattle.std.specs.Prelude.{ℕ, []}
use Rattle.numbers.specs.Times.{times}
use Rattle.count.specs.Count.{count}
use Rattle.load.specs.Cycle as channel
use Rattle.board.specs.declared.Board.{Board}
use Rattle.board.specs.Board.{channel_at, with_channel}
use Rattle.board.specs.Outcome.{Outcome, done, accept, on_channel}

-- Refusal 2, and none for the number: "Lift the limit on one call to 4,294,967,295" (02, L6)
unfoldable pub counts : Board → ℕ → ℕ → Outcome
counts b n number = on_channel b n [] (accept done (with_channel b n (times number count (channel_at b n))))

-- Refusal 2. "Output never moves", so no event bytes are lent
unfoldable pub load_cycle : Board → ℕ → Outcome
load_cycle b n = on_channel b n [] (accept done (with_channel b n (channel.load_cycle (channel_at b n))))
