-- Document 01, "Time and reset": catch-up and run.
use Rattle.std.specs.Prelude.{ℕ, Bool, true, cond, [], eqb}
use Rattle.refusal.specs.Reply.{Reply, refused, accepted}
use Rattle.time.specs.Time.{Yield, ticks_from_time}
use Rattle.board.specs.declared.Board.{Board}
use Rattle.board.specs.Board.{with_time}
use Rattle.board.specs.Outcome.{Outcome, ticks, refuse, accept, unless_owed}

-- "A catch-up or run adds ticks minus warp to the remainder", with the board's own divisor, remainder and warp. Refusals 3, 4, 5
abbrev pub elapsed : Board → ℕ → Reply Yield
elapsed b given = ticks_from_time given b.warp.0 b.remainder.0 b.divisor

-- "yields quotient by the divisor as timer ticks, keeps the rest", and leaves this warp and defer flag; "Timer ticks of a run or catch-up become owed ticks
-- on the board" (02, L1), where none were owed before
abbrev pub yielding : Board → ℕ → Bool → Reply Yield → Outcome
yielding b warp defer (refused number) = refuse number b []
yielding b warp defer (accepted made) = accept (ticks made.ticks) (with_time b made.remainder warp defer made.ticks)

-- "16 ... right after 1, 2 or 3": 3, 16, and then 4, 5
abbrev pub timely : Board → Outcome → Outcome
timely b outcome = cond (eqb b.divisor 0) (refuse 3 b []) (unless_owed b [] outcome)

-- what a call of time comes to that leaves this warp and defer flag
abbrev pub elapse : Board → ℕ → ℕ → Bool → Outcome
elapse b given warp defer = timely b (yielding b warp defer (elapsed b given))

-- "Catch-up then sets the warp to its ticks and the defer flag to true"
unfoldable pub catch_up : Board → ℕ → Outcome
catch_up b given = elapse b given given true

-- "run sets the warp to 0"
unfoldable pub run : Board → ℕ → Outcome
run b given = elapse b given 0 b.defer
