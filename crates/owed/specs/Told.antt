-- What an accepted call that works ticks off has done, said without the steps that it goes by: all of it is proved of `work_off` (proofs/).
use Rattle.std.specs.Prelude.{ℕ, zero, suc, ◌+◌, ◌-◌, ◌<◌, ◌≤◌, cond, List, [], ◌++◌, ◌⊎◌, ◌≡◌, ltb, length, take, drop}
use Rattle.numbers.specs.Times.{times}
use Rattle.refusal.specs.Reply.{refused, accepted}
use Rattle.event.specs.Event.{event_bytes}
use Rattle.board.specs.declared.Board.{Board}
use Rattle.board.specs.Outcome.{Outcome, worked, refuse}
use Rattle.owed.specs.BoardTick.{board_tick, tick_event}
use Rattle.owed.specs.Worked.{work_off}

-- the events of one tick, in channel order
abbrev pub tick_bytes : Board → List ℕ
tick_bytes b = event_bytes (tick_event b 0) ++ event_bytes (tick_event b 1) ++ event_bytes (tick_event b 2)

-- .. of that many ticks, one after another
abbrev pub all_bytes : ℕ → Board → List ℕ
all_bytes zero b = []
all_bytes (suc k) b = tick_bytes b ++ all_bytes k (board_tick b)

abbrev pub smaller : ℕ → ℕ → ℕ
smaller m n = cond (ltb n m) n m

-- "the smaller of that number and those owed, or fewer only where the next tick's events, in channel order, would not fit the event bytes"
abbrev pub Enough : Board → ℕ → ℕ → ℕ → Board → Type 0
Enough b stated made left after =
    (made ≡ smaller stated b.owed.0) ⊎ ((made < smaller stated b.owed.0) × (left < length (tick_bytes after)))

-- the number made and the new place that are answered, the board after that many ticks, and the bytes that tell of them; no other byte changes
pub record WorkedOff (b : Board) (stated : ℕ) (events : List ℕ) (place : ℕ) (outcome : Outcome) : Type 0 where
  pub made : ℕ
  pub new : ℕ
  pub answered : outcome.reply ≡ accepted (worked made new)
  pub ticks-made : outcome.board ≡ times made board_tick b
  pub enough : Enough b stated made (length events - new) outcome.board
  pub fewer-owed : outcome.board.owed.0 + made ≡ b.owed.0
  pub new-place : new ≡ place + length (all_bytes made b)
  pub in-room : new ≤ length events
  pub told : outcome.events ≡ take place events ++ all_bytes made b ++ drop new events

-- every call that neither refusal hits: the place lies in the event bytes (7), at most 65,536 ticks are stated (15)
abbrev pub WorksOff : Type 0
WorksOff = (b : Board) (stated : ℕ) (events : List ℕ) (place : ℕ) → place ≤ length events → stated ≤ 65536
    → WorkedOff b stated events place (work_off b stated events place)

-- "Nothing stated or nothing owed: none made, and that is accepted"; nothing changes
abbrev pub MakesNone : Type 0
MakesNone = (b : Board) (stated : ℕ) (events : List ℕ) (place : ℕ) → place ≤ length events → stated ≤ 65536 → (stated ≡ 0) ⊎ (b.owed.0 ≡ 0)
    → work_off b stated events place ≡ record { reply = accepted (worked 0 place); board = b; events = events }

-- "Each returns its number and the same board; no lent byte changes."
abbrev pub RefusedLeaves : Type 0
RefusedLeaves = (b : Board) (stated : ℕ) (events : List ℕ) (place number : ℕ) → (work_off b stated events place).reply ≡ refused number
    → work_off b stated events place ≡ refuse number b events
