-- What an operation of a trace asks of the board, and the event bytes that are lent for it.
use Rattle.std.specs.Prelude.{ℕ, List, [], ◌∷◌, get_or}
use Rattle.trace.specs.declared.operation.Operation.{Operation}
use Rattle.trace.specs.declared.operation.Operation.TheVariants as recorded
use Rattle.step.specs.Operation as call

-- Document 01, "Recorded traces": "It always lends two event bytes at place 0."
abbrev pub two_lent : List ℕ
two_lent = 0 ∷ 0 ∷ []

-- "Trace code 9, target 0, works ticks off with six event bytes lent" (02, L1)
abbrev pub six_lent : List ℕ
six_lent = 0 ∷ 0 ∷ 0 ∷ 0 ∷ 0 ∷ 0 ∷ []

-- the call of the board: "1 write port, 2 read port, 3 gate, 4 counts, 5 load cycle, 6 catch-up, 7 run, 8 reset", and 9 "works ticks off"
abbrev pub asked : Operation → call.Operation
asked (recorded.WritePort port byte) = call.WritePort port byte two_lent 0
asked (recorded.ReadPort port) = call.ReadPort port
asked (recorded.SetChannelGate channel level) = call.SetChannelGate channel level two_lent 0
asked (recorded.Counts channel number) = call.Counts channel number
asked (recorded.LoadCycle channel) = call.LoadCycle channel
asked (recorded.CatchUp given) = call.CatchUp given.0
asked (recorded.Run given) = call.Run given.0
asked recorded.Reset = call.Reset
asked (recorded.WorkOff stated) = call.WorkOff stated six_lent 0

-- the lent bytes after a call, in six places whatever was lent, with zeros where none was
abbrev pub padded : List ℕ → List ℕ
padded events =
    get_or events 0 0 ∷ get_or events 1 0 ∷ get_or events 2 0 ∷ get_or events 3 0 ∷ get_or events 4 0 ∷ get_or events 5 0 ∷ []
