-- Document 01's queries, on a channel of the board: refusal 2 each; and `get_timer_accum`, which is the remainder.
use Rattle.std.specs.Prelude.{ℕ, []}
use Rattle.channel.specs.declared.queries.DirtyAnswer.{DirtyAnswer}
use Rattle.channel.specs.Queries as channel
use Rattle.board.specs.declared.Board.{Board}
use Rattle.board.specs.Board.{channel_at, with_channel}
use Rattle.board.specs.Outcome.{Outcome, output_state, count_value, retriggers, dirty_marks, accept, on_channel}

-- the channel's own answers (channel/specs/Queries.antt); the board stays
unfoldable pub get_output_state : Board → ℕ → Outcome
get_output_state b n = on_channel b n [] (accept (output_state (channel.get_output_state (channel_at b n))) b)

unfoldable pub get_channel_count : Board → ℕ → Outcome
get_channel_count b n = on_channel b n [] (accept (count_value (channel.get_channel_count (channel_at b n))) b)

unfoldable pub does_channel_retrigger : Board → ℕ → Outcome
does_channel_retrigger b n = on_channel b n [] (accept (retriggers (channel.does_channel_retrigger (channel_at b n))) b)

-- "`is_dirty`, which clears the mark"
abbrev pub dirty_outcome : Board → ℕ → DirtyAnswer → Outcome
dirty_outcome b n d = accept (dirty_marks d.dirty d.counting d.ticked) (with_channel b n d.channel)

unfoldable pub is_dirty : Board → ℕ → Outcome
is_dirty b n = on_channel b n [] (dirty_outcome b n (channel.is_dirty (channel_at b n)))

-- the Rust's text: the accumulated system ticks, which are document 01's remainder
abbrev pub get_timer_accum : Board → ℕ
get_timer_accum b = b.remainder.0
