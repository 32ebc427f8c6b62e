-- Document 01: the gate call, with refusals 2, 7, 8 in this order, and 16 of 02, L1, right after 2.
use Rattle.std.specs.Prelude.{ℕ, Bool, List}
use Rattle.gate.specs.Gate.{set_gate}
use Rattle.board.specs.declared.Board.{Board}
use Rattle.board.specs.Board.{channel_at}
use Rattle.board.specs.Outcome.{Outcome, on_channel, unless_owed}
use Rattle.ports.specs.Settle.{settle}

-- "In 000 a gate call above channel 2 returns silently; here the same outcome has number 2."
unfoldable pub set_channel_gate : Board → ℕ → Bool → List ℕ → ℕ → Outcome
set_channel_gate b n level events place =
    on_channel b n events (unless_owed b events (settle b n (set_gate (channel_at b n) level) events place))
