-- What may pass, with no tick that loads the channel, leaves a channel on which a reading may begin, its counts taken. Assumes nothing.
use Prim.Native.Nat.{ℕ}
use mathlib.Core.Bool.{Bool}
use mathlib.Core.List.{List}
use Rattle.board.specs.declared.Board.{Board}
use Rattle.board.specs.Board.{channel_at}
use Rattle.step.specs.Operation.{Operation}
use Rattle.step.specs.Step.{steps}
use Rattle.step.specs.Accepted.{accepted_of}
use Rattle.step.proofs.Three.{steps-three}
use Rattle.reading.specs.Beginning.{Begins}
use Rattle.reading.specs.Passing.{AllMayPass, NoLoads}
use Rattle.reading.specs.Counts.{counts_on}
use Rattle.reading.specs.Spelling.{remaining}
use Rattle.reading.proofs.Counted.{Counted, undisturbed-may}
use Rattle.reading.proofs.Spelling.{left_below, left-good}
use Rattle.reading.proofs.Stands.{Stands, counted-stands}
use Rattle.reading.proofs.Passing.{all_pass}

pub begins-after : (b : Board) (i : ℕ) (bcd : Bool) (v : ℕ) → Begins b i bcd v → (os : List Operation) → AllMayPass b.model i (accepted_of b os) → NoLoads i b os
    → Begins (steps b os) i bcd (remaining bcd v (counts_on i b os))
begins-after b i bcd v begins os may unloaded =
    let p : Counted (NoLoads i b os) (counts_on i b os) (channel_at b i) (channel_at (steps b os) i) =
    all_pass b begins.three-channels i begins.on-board os may in
    let s : Stands bcd (remaining bcd v (counts_on i b os)) (channel_at (steps b os) i) =
    counted-stands (counts_on i b os) begins.sixteen-bits begins.four-digits p unloaded (record { in-radix = begins.radix; at = begins.element }) in
    record {
      on-board = begins.on-board;
      may = undisturbed-may (channel_at b i) (channel_at (steps b os) i) p.undisturbed begins.may;
      radix = s.in-radix;
      element = s.at;
      four-digits = left-good bcd v (counts_on i b os);
      three-channels = steps-three b begins.three-channels os;
      sixteen-bits = left_below bcd v (counts_on i b os);
    }
