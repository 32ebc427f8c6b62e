-- Document 02, L3, what the two words of a read are worth. The byte is the half that they say, or with `none held` the held status (L5). A half that is held is of the count that
-- one latch took; and two reads of one channel, the first `low held` and the second `high held`, with no command for it, reset or other read of it between them, give both halves of
-- one such count. And a latch makes the next read say `held`. Proved in proofs/Held.antt; docs/READING.md says it in words.
use Rattle.std.specs.Prelude.{ℕ, ◌/◌, ◌%◌, ◌<◌, Bool, true, false, List, [], ◌∷◌, ◌++◌, ◌⊎◌, ◌≡◌, length, None}
use Rattle.channel.specs.declared.PitType.{PitType}
use Rattle.control.specs.declared.Command.{Command}
use Rattle.control.specs.declared.Command.TheVariants.{Nothing, LatchCount, SetMode, ReadBack}
use Rattle.control.specs.Control.{names, command_of}
use Rattle.latch.specs.declared.label.Label.{Label}
use Rattle.latch.specs.Status.{no_status}
use Rattle.latch.specs.Label.{IsHalf, with_value}
use Rattle.board.specs.declared.Board.{Board}
use Rattle.board.specs.Board.{channel_at, with_channel}
use Rattle.step.specs.Operation.{Operation, ReadPort, LoadCycle}
use Rattle.step.specs.Step.{step, steps}
use Rattle.step.specs.Accepted.{IsAccepted, accepted_of}
use Rattle.reading.specs.Passing.{MayPass}
use Rattle.reading.specs.Reading.{read_of, control_write, Calls, latch, counts_made, Reading}
use Rattle.reading.specs.Spelling.{remaining, Says, low_held, high_held}

-- the board with another value in channel i's output latch
abbrev pub with_output_latch : Board → ℕ → ℕ → Board
with_output_latch b i v = with_channel b i (with_value (channel_at b i) v)

-- "low or high half", where no status is held: what an accepted read of a data port says does not go by the value read, and the byte is that half of it, whatever it is; "and whether the channel
-- was latched just before"
pub record SaysOf (b : Board) (i x : ℕ) (label : Label) : Type 0 where
  pub low_or_high : label.half ≡ None → ⊥
  pub half : IsHalf label.half x (channel_at b i).latch.output_latch
  pub mark : label.held ≡ (channel_at b i).latch.count_is_latched
  pub of-any-value : (v : ℕ) → (y : ℕ) × IsHalf label.half y v × Says y label (step (with_output_latch b i v) (read_of i)).reply

abbrev pub SaysItsHalf : Type 0
SaysItsHalf =
    (b : Board) (i : ℕ) → i < 3 → length b.channels ≡ 3 → no_status (channel_at b i) ≡ true → (x : ℕ) (label : Label) → Says x label (step b (read_of i)).reply
    → SaysOf b i x label

-- L5: "A held status is read first, once .. L3's words for it are `none held`": it is what is read, no status is held after that, and a count that is held or half read stands
pub record SaysStatus (b : Board) (i x : ℕ) (label : Label) : Type 0 where
  pub none-held : label ≡ record { half = None; held = true }
  pub status : x ≡ (channel_at b i).status.status_latch
  pub once : no_status (channel_at (step b (read_of i)).board i) ≡ true
  pub undisturbed : (channel_at (step b (read_of i)).board i).latch ≡ (channel_at b i).latch

abbrev pub StatusIsSaid : Type 0
StatusIsSaid =
    (b : Board) (i : ℕ) → i < 3 → length b.channels ≡ 3 → no_status (channel_at b i) ≡ false → (x : ℕ) (label : Label) → Says x label (step b (read_of i)).reply
    → SaysStatus b i x label

-- "and the command port prints `read 00 none live`", whatever is latched
abbrev pub CommandSaysNothing : Type 0
CommandSaysNothing = (b : Board) → Says 0 (record { half = None; held = false }) (step b (ReadPort 0x43)).reply

-- a command that asks for the count of channel i: its latch command, or a read-back that names it and asks for counts, which takes none where one is held
abbrev pub TakesCount : Command → ℕ → Type 0
TakesCount Nothing i = ⊥
TakesCount (LatchCount n) i = n ≡ i
TakesCount (SetMode n word) i = ⊥
TakesCount (ReadBack word) i = (names word i ≡ true) × (word.counts ≡ true)

-- a call that latches the count of channel i, on a board of a model: a control byte that is such a command
pub record Latches (model : PitType) (i : ℕ) (o : Operation) : Type 0 where
  pub byte : ℕ
  pub events : List ℕ
  pub place : ℕ
  pub is : o ≡ control_write byte events place
  pub command : TakesCount (command_of model byte) i

-- channel i is latched, and this is the count in its output latch
pub record IsHeld (b : Board) (i count : ℕ) : Type 0 where
  pub latched : (channel_at b i).latch.count_is_latched ≡ true
  pub holds : (channel_at b i).latch.output_latch ≡ count

-- .. on the board that the calls begin from, and after each of them
abbrev pub HeldOver : Board → ℕ → List Operation → ℕ → Type 0
HeldOver b i [] count = IsHeld b i count
HeldOver b i (o ∷ os) count = IsHeld b i count × HeldOver (step b o).board i os count

-- the count that one latch took: it is one of the calls, it was accepted, this was the counting element then, and since then the channel has held it
pub record TakenBy (b : Board) (i : ℕ) (calls : List Operation) (count : ℕ) : Type 0 where
  pub before : List Operation
  pub latching : Operation
  pub after : List Operation
  pub are : calls ≡ before ++ (latching ∷ after)
  pub latches : Latches b.model i latching
  pub is-accepted : IsAccepted (steps b before) latching
  pub element : (channel_at (steps b before) i).counter.counting_element ≡ count
  pub since : HeldOver (step (steps b before) latching).board i after count

-- .. or a latch from before the calls, and the channel has held it all the time
abbrev pub OfOneLatch : Board → ℕ → List Operation → ℕ → Type 0
OfOneLatch b i calls count = TakenBy b i calls count ⊎ HeldOver b i calls count

-- Where the channel was not latched before the calls, the latch is one of them.
abbrev pub LatchAmongCalls : Type 0
LatchAmongCalls =
    (b : Board) (i : ℕ) (calls : List Operation) (count : ℕ) → (channel_at b i).latch.count_is_latched ≡ false → OfOneLatch b i calls count
    → TakenBy b i calls count

-- An accepted read that says that its byte is held, and which half it is, after any calls, in any access: the byte is that half of the count that one latch took.
abbrev pub HeldByte : Type 0
HeldByte =
    (b : Board) (i : ℕ) → i < 3 → length b.channels ≡ 3 → (calls : List Operation) (x : ℕ) (label : Label)
    → Says x label (step (steps b calls) (read_of i)).reply
    → label.held ≡ true
    → (label.half ≡ None → ⊥)
    → (count : ℕ) × IsHalf label.half x count × OfOneLatch b i calls count

-- no command for channel i, no reset and no read of it: what may pass during a reading, and a load cycle, which a held count does not see
abbrev pub LeavesLatch : PitType → ℕ → Operation → Type 0
LeavesLatch model i o = MayPass model i o ⊎ (o ≡ LoadCycle i)

abbrev pub AllLeaveLatch : PitType → ℕ → List Operation → Type 0
AllLeaveLatch model i [] = Unit
AllLeaveLatch model i (o ∷ os) = LeavesLatch model i o × AllLeaveLatch model i os

module _ (b : Board) (i : ℕ) (calls between : List Operation) where
  -- the board when the turn of the first read comes, and of the second
  abbrev pub at_low : Board
  at_low = steps b calls

  abbrev pub at_high : Board
  at_high = steps (step at_low (read_of i)).board between

  -- after any calls a first read that says `low held`, and a second that says `high held`
  pub record HeldWord (x y : ℕ) : Type 0 where
    pub first : Says x low_held (step at_low (read_of i)).reply
    pub between-leave : AllLeaveLatch b.model i (accepted_of (step at_low (read_of i)).board between)
    pub second : Says y high_held (step at_high (read_of i)).reply

-- Both bytes are of the count that one latch took, from any board of three channels.
abbrev pub OneLatch : Type 0
OneLatch =
    (b : Board) (i : ℕ) → i < 3 → length b.channels ≡ 3 → (calls between : List Operation) (x y : ℕ) → HeldWord b i calls between x y
    → (count : ℕ) × (x ≡ count % 256) × (y ≡ count / 256) × OfOneLatch b i calls count

-- .. and the two reads of every reading of demand 3 are such a pair, with the count that it promises
abbrev pub ReadingIsHeld : Type 0
ReadingIsHeld =
    (b : Board) (i : ℕ) (bcd : Bool) (v : ℕ) (calls : Calls) → Reading b i bcd v calls
    → HeldWord b i (calls.before ++ (latch calls ∷ calls.after)) calls.between (remaining bcd v (counts_made b i calls) % 256)
    (remaining bcd v (counts_made b i calls) / 256)

-- A word begun live and latched between its bytes is torn, and the words tell: where a read says `live`, and a later one `low held` or `high held`, a latch was accepted in between,
-- and the held byte is of the count that it took.
abbrev pub LiveThenHeld : Type 0
LiveThenHeld =
    (b : Board) (i : ℕ) → i < 3 → length b.channels ≡ 3 → (x : ℕ) (first : Label) → Says x first (step b (read_of i)).reply → first.held ≡ false
    → (between : List Operation) (y : ℕ) (second : Label) → Says y second (step (steps (step b (read_of i)).board between) (read_of i)).reply
    → second.held ≡ true
    → (second.half ≡ None → ⊥)
    → (count : ℕ) × IsHalf second.half y count × TakenBy (step b (read_of i)).board i between count

-- And the other way: after an accepted latch of a channel with no status held, and calls that leave it, the next read says `held`, in any access, and its byte is of the count that
-- the latch took. A read-back of the count leaves a channel that was not latched the same (agreement, `count-as-plain`).
abbrev pub LatchIsSaid : Type 0
LatchIsSaid =
    (b : Board) (i : ℕ) → i < 3 → length b.channels ≡ 3 → no_status (channel_at b i) ≡ true
    → (byte : ℕ) (events : List ℕ) (place : ℕ) → command_of b.model byte ≡ LatchCount i → IsAccepted b (control_write byte events place)
    → (between : List Operation) → AllLeaveLatch b.model i (accepted_of (step b (control_write byte events place)).board between)
    → (x : ℕ) × (label : Label)
    × Says x label (step (steps (step b (control_write byte events place)).board between) (read_of i)).reply
    × (label.held ≡ true)
    × (label.half ≡ None → ⊥)
    × IsHalf label.half x (channel_at b i).counter.counting_element
