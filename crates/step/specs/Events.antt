-- Document 01, "Output events": what the lent bytes and the new place tell of an accepted port write or gate, before and after. What they tell of ticks worked
-- off is `WorkedOff`, in the crate owed (specs/Told.antt there).
use Rattle.std.specs.Prelude.{ℕ, ◌+◌, ◌<◌, Bool, List, ◌⊎◌, ◌≡◌}
use Rattle.event.specs.Written.{Written}
use Rattle.board.specs.declared.Board.{Board}
use Rattle.board.specs.Outcome.{Outcome, Value, new_place}
use Rattle.step.specs.Levels.{level_at}
use Rattle.step.specs.Operation.{Operation, kind_of}

-- "the old if no event": every output stands where it stood, and no byte changes
pub record NoEvent (b : Board) (events : List ℕ) (place : ℕ) (outcome : Outcome) (new : ℕ) : Type 0 where
  pub same_place : new ≡ place
  pub same-bytes : outcome.events ≡ events
  pub same-levels : (m : ℕ) → level_at outcome.board m ≡ level_at b m

-- "The new place is the old plus 2": the bytes name the one channel whose output changed, and its level now; "No other byte changes."
pub record OneEvent (b : Board) (events : List ℕ) (place : ℕ) (outcome : Outcome) (new : ℕ) : Type 0 where
  pub channel : ℕ
  pub on-board : channel < 3
  pub next_place : new ≡ place + 2
  pub written : Written events outcome.events place channel (level_at outcome.board channel)
  pub changed : level_at b channel ≡ level_at outcome.board channel → ⊥
  pub others-stand : (m : ℕ) → (m ≡ channel → ⊥) → level_at outcome.board m ≡ level_at b m

-- "The new place is the old plus 2, or the old if no event."
abbrev pub Told : Board → List ℕ → ℕ → Outcome → ℕ → Type 0
Told b events place outcome new = NoEvent b events place outcome new ⊎ OneEvent b events place outcome new

-- an accepted call answers a new place, and the bytes tell what it did
abbrev pub ToldBy : Board → List ℕ → ℕ → Outcome → Value → Type 0
ToldBy b events place outcome value = (new : ℕ) × (value ≡ new_place new) × Told b events place outcome new

-- which operations may move an output: a port write, a gate and ticks worked off, which tell of it, and a reset, which raises no event
abbrev pub may_move : Operation → Bool
may_move o = (kind_of o).moves
