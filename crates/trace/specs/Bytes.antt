-- Document 01, "Recorded traces", and document 02, L7: the bytes of a trace, with section three behind them where there is one.
use Rattle.std.specs.Prelude.{ℕ, ◌*◌, ◌<◌, ◌≤◌, List, [], ◌∷◌, ◌++◌, ◌≡◌, length, drop}
use Rattle.numbers.specs.Flags.{flag_number}
use Rattle.numbers.specs.Little.{four_bytes}
use Rattle.channel.specs.Models.{model_number}
use Rattle.trace.specs.declared.operation.Operation.{Operation}
use Rattle.trace.specs.declared.operation.Operation.TheVariants.{WritePort, ReadPort, SetChannelGate, Counts, LoadCycle, CatchUp, Run, Reset, WorkOff}
use Rattle.board_encoding.specs.Places.{board_size}
use Rattle.trace.specs.Sizes.{most_operations, checkpoints_of}
use Rattle.trace.specs.Operation.{place_of}
use Rattle.trace.specs.Trace.{Trace}

-- every number of a list is a byte. What a program reads is: its type says so
abbrev pub AllBytes : List ℕ → Type 0
AllBytes [] = Unit
AllBytes (x ∷ xs) = (x < 256) × AllBytes xs

-- "operations of six bytes: code, target, number."
abbrev pub six : ℕ → ℕ → ℕ → List ℕ
six code target number = code ∷ target ∷ four_bytes number

-- "Codes: 1 write port, 2 read port, 3 gate, 4 counts, 5 load cycle, 6 catch-up, 7 run, 8 reset. Target 0 for 6, 7, 8. Number 0 for 2, 5, 8"; "Trace code 9, target 0"
-- (02, L1)
abbrev pub operation_bytes : Operation → List ℕ
operation_bytes (WritePort port byte) = six 1 port byte
operation_bytes (ReadPort port) = six 2 port 0
operation_bytes (SetChannelGate channel level) = six 3 channel (flag_number level)
operation_bytes (Counts channel number) = six 4 channel number
operation_bytes (LoadCycle channel) = six 5 channel 0
operation_bytes (CatchUp given) = six 6 0 given.0
operation_bytes (Run given) = six 7 0 given.0
operation_bytes Reset = six 8 0 0
operation_bytes (WorkOff stated) = six 9 0 stated

-- one operation after another
abbrev pub operations_bytes : List Operation → List ℕ
operations_bytes [] = []
operations_bytes (o ∷ os) = operation_bytes o ++ operations_bytes os

-- "Section one: count 2, then divisor and model (0 8253, 1 8254). Section two: operation count, then operations"
unfoldable pub trace_bytes : Trace → List ℕ
trace_bytes t =
    four_bytes 2 ++ four_bytes t.divisor ++ four_bytes (model_number t.model) ++ four_bytes (length t.operations)
    ++ operations_bytes t.operations

-- what stands behind the last of so many operations
abbrev pub behind : List ℕ → ℕ → List ℕ
behind bytes operations = drop (place_of operations) bytes

-- "a count, then the whole board as it stands after each 256 operations" (02, L7), or nothing: what can stand there, whatever the boards say
pub data SectionForm (operations : ℕ) : List ℕ → Type 0 where
  missing : SectionForm operations []
  counted : (boards : List ℕ) → length boards ≡ board_size * checkpoints_of operations → SectionForm operations (four_bytes (checkpoints_of operations) ++ boards)

-- numbers that the six bytes can hold. Every operation of a program is one: its fields' types say so
abbrev pub Holds : Operation → Type 0
Holds (WritePort port byte) = (port < 256) × (byte < 256)
Holds (ReadPort port) = port < 256
Holds (SetChannelGate channel level) = channel < 256
Holds (Counts channel number) = (channel < 256) × (number < 4294967296)
Holds (LoadCycle channel) = channel < 256
Holds (CatchUp given) = given.0 < 4294967296
Holds (Run given) = given.0 < 4294967296
Holds Reset = Unit
Holds (WorkOff stated) = stated < 4294967296

-- .. of every operation of a list
abbrev pub AllHold : List Operation → Type 0
AllHold [] = Unit
AllHold (o ∷ os) = Holds o × AllHold os

-- a trace that can be written down: a divisor above zero, at most 4,096 operations
pub record Writable (t : Trace) : Type 0 where
  pub divisor-above : 0 < t.divisor
  pub divisor-fits : t.divisor < 4294967296
  pub not-too-many : length t.operations ≤ most_operations
  pub numbers_fit : AllHold t.operations
