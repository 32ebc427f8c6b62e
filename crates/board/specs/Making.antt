-- Document 01, "Time and reset": the fresh board, and what a reset leaves.
use Rattle.std.specs.Prelude.{ℕ, false, cond, [], ◌∷◌, eqb}
use Rattle.channel.specs.declared.PitType.{PitType}
use Rattle.channel.specs.Fresh as channel
use Rattle.board.specs.declared.Board.{Board}
use Rattle.board.specs.Board.{channel_at, with_channels}
use Rattle.board.specs.Outcome.{Outcome, done, refuse, accept, unless_owed}

-- "A fresh board has remainder and warp 0 and defer flag false."; it owes no tick (docs/TICK.md)
unfoldable pub fresh : PitType → ℕ → Board
fresh model divisor =
    record {
      channels = channel.fresh ∷ channel.fresh ∷ channel.fresh ∷ [];
      model = model;
      divisor = divisor;
      remainder = record { 0 = 0 };
      warp = record { 0 = 0 };
      defer = false;
      owed = record { 0 = 0 };
    }

-- "making a board 3". No board was given that could be handed back: beside the refusal stands the fresh one with that divisor, 0
unfoldable pub new : PitType → ℕ → Outcome
new model divisor = cond (eqb divisor 0) (refuse 3 (fresh model divisor) []) (accept done (fresh model divisor))

-- "`reset` restores three fresh channels but keeps model and gate, and keeps remainder, warp and defer flag. It raises no event"
unfoldable pub restored : Board → Board
restored b =
    with_channels b
    (channel.reset (channel_at b 0) ∷ channel.reset (channel_at b 1) ∷ channel.reset (channel_at b 2) ∷ [])

-- Refusal 16 alone
unfoldable pub reset : Board → Outcome
reset b = unless_owed b [] (accept done (restored b))
