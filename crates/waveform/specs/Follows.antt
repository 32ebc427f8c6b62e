-- Demand 2 to the pin: over every list of calls, accepted and refused, each channel of the board shows the output and the value that the sheets' counter fixes.
use Rattle.std.specs.Prelude.{ℕ, ◌<◌, Bool, true, false, List, ◌⊎◌, ◌≡◌, length}
use Rattle.channel.specs.declared.PitType.{PitType}
use Rattle.board.specs.declared.Board.{Board}
use Rattle.board.specs.Board.{channel_at}
use Rattle.board.specs.Making.{fresh}
use Rattle.step.specs.Operation.{Operation}
use Rattle.step.specs.Step.{steps}
use Rattle.sheet.specs.Counter.{left_open, fixed_at}
use Rattle.agreement.specs.Watching.{Watch, unprogrammed, ShowsIn}
use Rattle.waveform.specs.Heard.{watch_over, OnlyBytes}

-- what is known before the calls, whether the board defers and of the channel: of any board with three channels the level at the gate; of a new board that no
-- catch-up was made, that the gate is high and that no mode 1 was set
abbrev pub AnyBoard : Board → ℕ → Bool → Watch → Type 0
AnyBoard b i defers w = (length b.channels ≡ 3) × ((defers ≡ b.defer) × (w ≡ unprogrammed (channel_at b i).pins.gate left_open))

abbrev pub NewBoard : Board → Bool → Watch → Type 0
NewBoard b defers w = (model : PitType) × ((divisor : ℕ) × ((b ≡ fresh model divisor) × ((defers ≡ false) × (w ≡ unprogrammed true (fixed_at false)))))

abbrev pub Starts : Board → ℕ → Bool → Watch → Type 0
Starts b i defers w = AnyBoard b i defers w ⊎ NewBoard b defers w

abbrev pub Follows : Type 0
Follows =
    (b : Board) (i : ℕ) (defers : Bool) (w : Watch) → Starts b i defers w → i < 3 → (os : List Operation) → OnlyBytes os
    → ShowsIn (watch_over i b os defers w) (channel_at (steps b os) i)
