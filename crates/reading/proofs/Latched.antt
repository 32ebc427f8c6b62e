-- From the latch of a reading to its end: the channel holds the word that was latched, whatever ticks and refused calls come, and the two reads give its bytes. Assumes nothing.
use Prim.Native.Nat.{ℕ, ◌<◌}
use mathlib.Core.Path.{◌≡◌}
use lib.ListN.{length}
use Rattle.channel.specs.declared.ReadState.TheVariants.{NoRead, ReadLsb}
use Rattle.latch.specs.Reading.{read_byte}
use Rattle.board.specs.declared.Board.{Board}
use Rattle.board.specs.Board.{channel_at}
use Rattle.step.specs.Accepted.{accepted_of}
use Rattle.step.proofs.Three.{step-three, steps-three}
use Rattle.reading.specs.Passing.{AllMayPass, NoLoads}
use Rattle.reading.specs.Counts.{counts_on}
use Rattle.reading.specs.Reading.{read_of, Calls, latched, at_first, half_read, at_second, first_reply, second_reply}
use Rattle.reading.specs.Spelling.{Spells}
use Rattle.reading.proofs.Counted.{Counted}
use Rattle.reading.proofs.Passing.{all_pass}
use Rattle.reading.proofs.Holds.{Holds, undisturbed-holds, first_byte, first-label, first_holds, second-byte, second-label}
use Rattle.reading.proofs.Turns.{read-reply, read-leaves}

-- the latch was made, and only what may pass is accepted after it
pub record Latched (b : Board) (i : ℕ) (calls : Calls) (word : ℕ) : Type 0 where
  pub on-board : i < 3
  pub three-channels : length (latched b i calls).channels ≡ 3
  pub holds : Holds word NoRead (channel_at (latched b i calls) i)
  pub after-may : AllMayPass (latched b i calls).model i (accepted_of (latched b i calls) calls.after)
  pub between-may : AllMayPass (half_read b i calls).model i (accepted_of (half_read b i calls) calls.between)

module _ {b : Board} {i : ℕ} {calls : Calls} {word : ℕ} (l : Latched b i calls word) where
  pub passed_first : Counted (NoLoads i (latched b i calls) calls.after) (counts_on i (latched b i calls) calls.after) (channel_at (latched b i calls) i) (channel_at (at_first b i calls) i)
  passed_first = all_pass (latched b i calls) l.three-channels i l.on-board calls.after l.after-may

  three-first : length (at_first b i calls).channels ≡ 3
  three-first = steps-three (latched b i calls) l.three-channels calls.after

  holds-first : Holds word NoRead (channel_at (at_first b i calls) i)
  holds-first = undisturbed-holds passed_first.undisturbed l.holds

  pub half-record : channel_at (half_read b i calls) i ≡ (read_byte (channel_at (at_first b i calls) i)).channel
  half-record = read-leaves (at_first b i calls) three-first i l.on-board

  three-half : length (half_read b i calls).channels ≡ 3
  three-half = step-three (at_first b i calls) three-first (read_of i)

  pub passed-second : Counted (NoLoads i (half_read b i calls) calls.between) (counts_on i (half_read b i calls) calls.between) (channel_at (half_read b i calls) i) (channel_at (at_second b i calls) i)
  passed-second = all_pass (half_read b i calls) three-half i l.on-board calls.between l.between-may

  pub three-second : length (at_second b i calls).channels ≡ 3
  three-second = steps-three (half_read b i calls) three-half calls.between

  pub holds-second : Holds word ReadLsb (channel_at (at_second b i calls) i)
  holds-second =
      undisturbed-holds passed-second.undisturbed (rw half-record (first_holds (channel_at (at_first b i calls) i) word holds-first))

  pub spells : Spells word (first_reply b i calls) (second_reply b i calls)
  spells = (
    rw (first_byte (channel_at (at_first b i calls) i) word holds-first, first-label (channel_at (at_first b i calls) i) word holds-first) at
        (read-reply (at_first b i calls) i l.on-board),
    rw (second-byte (channel_at (at_second b i calls) i) word holds-second, second-label (channel_at (at_second b i calls) i) word holds-second) at
        (read-reply (at_second b i calls) i l.on-board),
  )
