-- Document 02, L5: the read-back on a board: the channels that it names, up to three at once.
use Rattle.std.specs.Prelude.{ℕ, cond, List, None}
use Rattle.channel.specs.declared.Channel.{Channel}
use Rattle.control.specs.declared.ReadBackWord.{ReadBackWord}
use Rattle.control.specs.Control.{names}
use Rattle.latch.specs.ReadBack as channel
use Rattle.event.specs.Event.{place_event}
use Rattle.board.specs.declared.Board.{Board}
use Rattle.board.specs.Board.{channel_at, with_channel}
use Rattle.board.specs.Outcome.{Outcome}
use Rattle.ports.specs.Settle.{placed_on}

-- a channel that is named is read back, the others stay
unfoldable pub read_back_at : ReadBackWord → ℕ → Channel → Channel
read_back_at word n c = cond (names word n) (channel.read_back word.counts word.status c) c

-- each at its place
unfoldable pub read_backs : ReadBackWord → Board → Board
read_backs word b =
    with_channel
    (with_channel (with_channel b 0 (read_back_at word 0 (channel_at b 0))) 1 (read_back_at word 1 (channel_at b 1)))
    2 (read_back_at word 2 (channel_at b 2))

-- no output moves, so no event is due: refusal 7 alone
abbrev pub read_back_write : Board → ReadBackWord → List ℕ → ℕ → Outcome
read_back_write b word events place = placed_on b (read_backs word b) (place_event None events place)
