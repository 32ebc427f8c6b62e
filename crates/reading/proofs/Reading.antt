-- A reading of demand 3, turn by turn: what its channel counts, holds and gives. Assumes nothing.
use Prim.Native.Nat.{ℕ, ◌+◌}
use mathlib.Core.Bool.{Bool}
use mathlib.Core.Path.{◌≡◌, refl, ◌∙◌}
use Rattle.control.specs.declared.Command.TheVariants.{LatchCount}
use Rattle.latch.specs.Latching.{latch_count}
use Rattle.latch.specs.Reading.{read_byte}
use Rattle.board.specs.declared.Board.{Board}
use Rattle.board.specs.Board.{channel_at}
use Rattle.step.proofs.Kept.{settings-kept, steps-model}
use Rattle.step.proofs.Three.{step-three}
use Rattle.reading.specs.Beginning.{Begins}
use Rattle.reading.specs.Counts.{counts_on}
use Rattle.reading.specs.Reading.{read_of, Calls, latch, at_latch, latched, at_first, half_read, at_second, at_end, counts_made, counts_in_all, NoLaterLoads, Reading}
use Rattle.reading.specs.Spelling.{remaining}
use Rattle.reading.proofs.Holds.{latch-holds, second-may}
use Rattle.reading.proofs.After.{begins-after}
use Rattle.reading.proofs.Turns.{read-leaves, command-turn}
use Rattle.reading.proofs.Latched.{Latched, passed_first, half-record, passed-second, three-second, holds-second}
use Rattle.reading.proofs.Stands.{Stands, counted-stands, latch-stands, read-stands}
use Rattle.reading.proofs.Spelling.{left_below, left-good, left-again}

-- all the time the board is of one model
module _ (b : Board) (i : ℕ) (calls : Calls) where
  before-model : (at_latch b i calls).model ≡ b.model
  before-model = steps-model b calls.before

  latched-model : (latched b i calls).model ≡ b.model
  latched-model = (settings-kept (at_latch b i calls) (latch calls)).0 ∙ before-model

  half-model : (half_read b i calls).model ≡ b.model
  half-model = (settings-kept (at_first b i calls) (read_of i)).0 ∙ steps-model (latched b i calls) calls.after ∙ latched-model

module _ {b : Board} {i : ℕ} {bcd : Bool} {v : ℕ} {calls : Calls} (reading : Reading b i bcd v calls) where
  -- n counts up to the latch
  begins-latch : Begins (at_latch b i calls) i bcd (remaining bcd v (counts_made b i calls))
  begins-latch = begins-after b i bcd v reading.begins calls.before reading.before-may reading.no-loads

  latched-record : channel_at (latched b i calls) i ≡ latch_count (channel_at (at_latch b i calls) i)
  latched-record =
      command-turn (at_latch b i calls) begins-latch.three-channels i begins-latch.on-board calls.latch_byte calls.latch_events calls.latch_place (LatchCount i)
      (latch_count (channel_at (at_latch b i calls) i))
      (rw (before-model b i calls) reading.latches)
      refl
      reading.latch-accepted

  -- the latch holds what was left
  pub holding : Latched b i calls (remaining bcd v (counts_made b i calls))
  holding =
      record {
        on-board = begins-latch.on-board;
        three-channels = step-three (at_latch b i calls) begins-latch.three-channels (latch calls);
        holds = rw (latched-record, ← begins-latch.element) (latch-holds (channel_at (at_latch b i calls) i) begins-latch.may);
        after-may = rw (latched-model b i calls) reading.after-may;
        between-may = rw (half-model b i calls) reading.between-may;
      }

  -- the counts up to the first read
  abbrev counts_first : ℕ
  counts_first = counts_made b i calls + counts_on i (latched b i calls) calls.after

  -- the count goes on under the latch and the reads, as long as no tick loads
  module _ (later : NoLaterLoads b i calls) where
    stands-first : Stands bcd (remaining bcd v counts_first) (channel_at (at_first b i calls) i)
    stands-first =
        rw (← left-again bcd v (counts_made b i calls) (counts_on i (latched b i calls) calls.after))
        (counted-stands (counts_on i (latched b i calls) calls.after) (left_below bcd v (counts_made b i calls)) (left-good bcd v (counts_made b i calls)) (passed_first holding)
        later.0
        (rw latched-record (latch-stands (record { in-radix = begins-latch.radix; at = begins-latch.element }))))

    stands-second : Stands bcd (remaining bcd v (counts_in_all b i calls)) (channel_at (at_second b i calls) i)
    stands-second =
        rw (← left-again bcd v counts_first (counts_on i (half_read b i calls) calls.between))
        (counted-stands (counts_on i (half_read b i calls) calls.between) (left_below bcd v counts_first) (left-good bcd v counts_first) (passed-second holding)
        later.1
        (rw (half-record holding) (read-stands (channel_at (at_first b i calls) i) stands-first)))

    -- the second read leaves the channel as a reading finds it
    pub begins-again : Begins (at_end b i calls) i bcd (remaining bcd v (counts_in_all b i calls))
    begins-again =
        let left : channel_at (at_end b i calls) i ≡ (read_byte (channel_at (at_second b i calls) i)).channel =
        read-leaves (at_second b i calls) (three-second holding) i begins-latch.on-board in
        record {
          on-board = begins-latch.on-board;
          may = rw left (second-may (channel_at (at_second b i calls) i) _ (holds-second holding));
          radix = rw left (read-stands (channel_at (at_second b i calls) i) stands-second).in-radix;
          element = rw left (read-stands (channel_at (at_second b i calls) i) stands-second).at;
          four-digits = left-good bcd v (counts_in_all b i calls);
          three-channels = step-three (at_second b i calls) (three-second holding) (read_of i);
          sixteen-bits = left_below bcd v (counts_in_all b i calls);
        }
