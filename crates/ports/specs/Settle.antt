-- Document 01, "Output events": a call that leaves a new record of one channel, and the event of its output.
use Rattle.std.specs.Prelude.{ℕ, List, None}
use Rattle.refusal.specs.Reply.{Reply, refused, accepted}
use Rattle.channel.specs.declared.Channel.{Channel}
use Rattle.event.specs.Event.{Placing, level_event, place_event}
use Rattle.board.specs.declared.Board.{Board}
use Rattle.board.specs.Board.{channel_at, with_channel}
use Rattle.board.specs.Outcome.{Outcome, Value, new_place}

-- the event's refusal or its new place is the call's
abbrev pub call_reply : Reply ℕ → Reply Value
call_reply (refused number) = refused number
call_reply (accepted p) = accepted (new_place p)

-- "Each returns its number and the same board"
abbrev pub board_after : Reply ℕ → Board → Board → Board
board_after (refused number) old new = old
board_after (accepted p) old new = new

-- an event placed, or refused, and the board that this leaves
abbrev pub placed_on : Board → Board → Placing → Outcome
placed_on old new placing =
    record { reply = call_reply placing.reply; board = board_after placing.reply old new; events = placing.bytes }

-- the new record at its place, unless the event of its output is refused: 7, 8
unfoldable pub settle : Board → ℕ → Channel → List ℕ → ℕ → Outcome
settle b n c events place = placed_on b (with_channel b n c) (place_event (level_event n (channel_at b n) c) events place)

-- a call that changes no channel: refusal 7 is given where the place is past the end, all the same
unfoldable pub untouched : Board → List ℕ → ℕ → Outcome
untouched b events place = placed_on b b (place_event None events place)
