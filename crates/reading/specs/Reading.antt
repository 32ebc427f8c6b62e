-- Demand 3's reading: its calls, the boards at their turns, and what makes it one.
use Rattle.std.specs.Prelude.{ℕ, ◌+◌, ◌*◌, Bool, List, [], ◌≡◌}
use Rattle.refusal.specs.Reply.{Reply}
use Rattle.control.specs.declared.Command.TheVariants.{LatchCount}
use Rattle.control.specs.Control.{command_of}
use Rattle.board.specs.declared.Board.{Board}
use Rattle.board.specs.Outcome.{Value}
use Rattle.step.specs.Operation.{Operation, WritePort, ReadPort}
use Rattle.step.specs.Step.{step, steps}
use Rattle.step.specs.Accepted.{IsAccepted, accepted_of}
use Rattle.reading.specs.Beginning.{Begins}
use Rattle.reading.specs.Passing.{AllMayPass, NoLoads}
use Rattle.reading.specs.Counts.{counts_on}

-- a read of channel i's data port
abbrev pub read_of : ℕ → Operation
read_of i = ReadPort (0x40 + i)

-- a control byte to the command port
abbrev pub control_write : ℕ → List ℕ → ℕ → Operation
control_write byte events place = WritePort 0x43 byte events place

-- The calls of a reading, in their order: those before the latch; the latch, a control byte; those between it and the first read; that read; those between the
-- two reads; and the second read.
pub record Calls : Type 0 where
  pub before : List Operation
  pub latch_byte : ℕ
  pub latch_events : List ℕ
  pub latch_place : ℕ
  pub after : List Operation
  pub between : List Operation

abbrev pub latch : Calls → Operation
latch calls = control_write calls.latch_byte calls.latch_events calls.latch_place

-- the shortest: the plain latch command of channel i, which raises no event and wants no room, and the reads of the two bytes
abbrev pub three_calls : ℕ → Calls
three_calls i = record { before = []; latch_byte = i * 64; latch_events = []; latch_place = 0; after = []; between = [] }

module _ (b : Board) (i : ℕ) (calls : Calls) where
  -- the board when the turn of the latch comes, and after it
  abbrev pub at_latch : Board
  at_latch = steps b calls.before

  abbrev pub latched : Board
  latched = (step at_latch (latch calls)).board

  -- .. of the first read, and after it
  abbrev pub at_first : Board
  at_first = steps latched calls.after

  abbrev pub half_read : Board
  half_read = (step at_first (read_of i)).board

  -- .. of the second read, and after it
  abbrev pub at_second : Board
  at_second = steps half_read calls.between

  abbrev pub at_end : Board
  at_end = (step at_second (read_of i)).board

  -- what the two reads answer
  abbrev pub first_reply : Reply Value
  first_reply = (step at_first (read_of i)).reply

  abbrev pub second_reply : Reply Value
  second_reply = (step at_second (read_of i)).reply

  -- n
  abbrev pub counts_made : ℕ
  counts_made = counts_on i b calls.before

  -- all counts that were made on the channel, those after the latch too
  abbrev pub counts_in_all : ℕ
  counts_in_all = counts_made + counts_on i latched calls.after + counts_on i half_read calls.between

  -- none of the ticks that came after the latch loaded the channel
  abbrev pub NoLaterLoads : Type 0
  NoLaterLoads = NoLoads i latched calls.after × NoLoads i half_read calls.between

-- "make n counts, latch, read two bytes, all in accepted calls": n is what accepted calls make (`counts_on`), the latch is any control byte that latches channel i, and
-- a read of the channel's port is always accepted (`Spells` says so). What may pass is asked of the accepted calls: a refused one, whatever it asks for, leaves the board.
pub record Reading (b : Board) (i : ℕ) (bcd : Bool) (v : ℕ) (calls : Calls) : Type 0 where
  pub begins : Begins b i bcd v
  pub before-may : AllMayPass b.model i (accepted_of b calls.before)
  pub no-loads : NoLoads i b calls.before
  pub latches : command_of b.model calls.latch_byte ≡ LatchCount i
  pub latch-accepted : IsAccepted (at_latch b i calls) (latch calls)
  pub after-may : AllMayPass b.model i (accepted_of (latched b i calls) calls.after)
  pub between-may : AllMayPass b.model i (accepted_of (half_read b i calls) calls.between)
