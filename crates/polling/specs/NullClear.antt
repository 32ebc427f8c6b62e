-- What the null count tells, over any calls. It is the sheet's (RB3); and where it is 0 the latest that happened is a load, of the value that the count written last loads as. Proved in
-- proofs/Clear.antt.
use Rattle.std.specs.Prelude.{ℕ, ◌+◌, ◌/◌, ◌%◌, ◌<◌, true, false, List, [], ◌∷◌, ◌⊎◌, ◌≡◌, length}
use Rattle.sheet.specs.Counter.{fixed_at}
use Rattle.sheet.specs.NullCount.{Happening, written, loaded, null_count, last_written}
use Rattle.channel.specs.declared.Channel.{Channel}
use Rattle.channel.specs.declared.PitType.{PitType}
use Rattle.control.specs.declared.Command.TheVariants.{ReadBack}
use Rattle.control.specs.declared.ReadBackWord.{ReadBackWord}
use Rattle.control.specs.Control.{names, command_of}
use Rattle.latch.specs.Status.{no_status}
use Rattle.latch.specs.declared.label.Label.{Label}
use Rattle.load.specs.Cycle.{masked_in}
use Rattle.refusal.specs.Reply.{accepted}
use Rattle.board.specs.declared.Board.{Board}
use Rattle.board.specs.Board.{channel_at}
use Rattle.board.specs.Making.{fresh}
use Rattle.board.specs.Outcome.{byte}
use Rattle.step.specs.Operation.{Operation, WritePort, ReadPort}
use Rattle.step.specs.Accepted.{IsAccepted}
use Rattle.step.specs.Step.{step, steps}
use Rattle.polling.specs.Happened.{happened}

-- Where the calls begin: on a new board, to whose channels nothing has happened; or on any board, at a channel whose mark is set: the count written last is its reload value.
abbrev pub NewBoard : Board → List Happening → Type 0
NewBoard b earlier = (model : PitType) × ((divisor : ℕ) × ((b ≡ fresh model divisor) × (earlier ≡ [])))

pub record MarkSet (b : Board) (i : ℕ) (earlier : List Happening) : Type 0 where
  pub three-channels : length b.channels ≡ 3
  pub mark : (channel_at b i).status.null_count ≡ true
  pub last : earlier ≡ written (channel_at b i).load.reload_value ∷ []

abbrev pub Starts : Board → ℕ → List Happening → Type 0
Starts b i earlier = NewBoard b earlier ⊎ MarkSet b i earlier

-- RB3, over any calls, accepted or refused
abbrev pub NullIsTheSheets : Type 0
NullIsTheSheets =
    (b : Board) (i : ℕ) (earlier : List Happening) → Starts b i earlier → i < 3 → (os : List Operation)
    → (channel_at (steps b os) i).status.null_count ≡ null_count (happened i b os earlier)

-- the latest that happened to a channel is a load, and the value is what the count that was written last loads as: that count itself, in mode 3 with the mask of the mode set
pub record LoadedLast (c : Channel) (all : List Happening) : Type 0 where
  pub value : ℕ
  pub count : ℕ
  pub earlier : List Happening
  pub latest : all ≡ loaded value ∷ earlier
  pub last-written : last_written earlier ≡ fixed_at count
  pub loads-as : value ≡ masked_in c.control.mode count c.reloading.load_mask

-- "a null count of 0 means that what was written last is what was loaded", over any calls; or nothing has happened since the board was made or reset
abbrev pub NullClear : Type 0
NullClear =
    (b : Board) (i : ℕ) (earlier : List Happening) → Starts b i earlier → i < 3 → (os : List Operation)
    → (channel_at (steps b os) i).status.null_count ≡ false
    → (happened i b os earlier ≡ []) ⊎ LoadedLast (channel_at (steps b os) i) (happened i b os earlier)

-- What firmware does: after any calls, with no status held, it sends a read-back of the status and reads the channel's port. Where bit 6 of the byte is clear, what was written last is what was loaded.
module _ (b : Board) (i : ℕ) (os : List Operation) where
  -- the board when the turn of the read-back comes, and after it
  abbrev pub asking : Board
  asking = steps b os

  pub record Polls (control : ℕ) (events : List ℕ) (place : ℕ) (word : ReadBackWord) (x : ℕ) (label : Label) : Type 0 where
    pub is-read-back : command_of asking.model control ≡ ReadBack word
    pub named : names word i ≡ true
    pub asks-status : word.status ≡ true
    pub none-held : no_status (channel_at asking i) ≡ true
    pub taken : IsAccepted asking (WritePort 0x43 control events place)
    pub read : (step (step asking (WritePort 0x43 control events place)).board (ReadPort (0x40 + i))).reply ≡ accepted (byte (record { byte = x; label = label }))
    pub clear : x / 64 % 2 ≡ 0

abbrev pub FirmwarePolls : Type 0
FirmwarePolls =
    (b : Board) (i : ℕ) (earlier : List Happening) → Starts b i earlier → i < 3 → (os : List Operation) (control : ℕ) (events : List ℕ) (place : ℕ) (word : ReadBackWord) (x : ℕ)
    (label : Label) → Polls b i os control events place word x label
    → (happened i b os earlier ≡ []) ⊎ LoadedLast (channel_at (steps b os) i) (happened i b os earlier)
