-- A call of time on a board's own fields, and what it comes to on a board.
use Rattle.std.specs.Prelude.{[], Result}
use Rattle.refusal.specs.declared.Refusal.{Refusal}
use Rattle.board.specs.declared.Board.{Board}
use Rattle.board.specs.declared.Answer.{Answer}
use Rattle.board.specs.Outcome.{Outcome}
use Rattle.board.specs.Answer.{reply_of}
use Rattle.clock.specs.declared.Clock.{Clock}

-- a board's divisor, remainder, warp and defer flag, and the ticks that it owes
abbrev pub clock_of : Board → Clock
clock_of b = record { divisor = b.divisor; remainder = b.remainder; warp = b.warp; defer = b.defer; owed = b.owed }

-- .. and the board with others in their place
abbrev pub with_clock : Board → Clock → Board
with_clock b time =
    record {
      channels = b.channels;
      model = b.model;
      divisor = time.divisor;
      remainder = time.remainder;
      warp = time.warp;
      defer = time.defer;
      owed = time.owed;
    }

-- what the code answers, and the fields that it leaves, put back into the board
abbrev pub elapsed_on : Board → Result Answer Refusal → Clock → Outcome
elapsed_on b answer time = record { reply = reply_of answer; board = with_clock b time; events = [] }
