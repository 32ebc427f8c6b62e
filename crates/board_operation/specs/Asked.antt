-- docs/ENCODING.md, "An operation on a board: three numbers": what a code, a target and a number ask for.
use Rattle.std.specs.Prelude.{ℕ, cond, eqb, ltb, Option, Some, None}
use Rattle.board_operation.specs.declared.Operation.{Operation}
use Rattle.board_operation.specs.declared.Operation.TheVariants.{WritePort, ReadPort, SetChannelGate, Counts, LoadCycle, CatchUp, Run, Reset, GetOutputState, GetChannelCount, DoesChannelRetrigger, IsDirty, GetTimerAccum, WorkOff}

-- "Where a target or a number says nothing it must be 0."
abbrev pub zero_or : ℕ → Option Operation → Option Operation
zero_or number asked = cond (eqb number 0) asked None

-- code 1: "the byte, 0 to 255"
unfoldable pub write_asked : ℕ → ℕ → Option Operation
write_asked port number = cond (ltb 255 number) None (Some (WritePort port number))

-- code 3: "the level, 0 or 1"
unfoldable pub gate_asked : ℕ → ℕ → Option Operation
gate_asked channel number = cond (ltb 1 number) None (Some (SetChannelGate channel (eqb number 1)))

-- codes 17 to 21
unfoldable pub query_asked : ℕ → ℕ → Option Operation
query_asked code target =
    cond (eqb code 17) (Some (GetOutputState target))
    (cond (eqb code 18) (Some (GetChannelCount target))
    (cond (eqb code 19) (Some (DoesChannelRetrigger target))
    (cond (eqb code 20) (Some (IsDirty target)) (cond (eqb code 21) (zero_or target (Some GetTimerAccum)) None))))

-- the codes whose number says nothing
unfoldable pub bare_asked : ℕ → ℕ → Option Operation
bare_asked code target =
    cond (eqb code 2) (Some (ReadPort target))
    (cond (eqb code 5) (Some (LoadCycle target)) (cond (eqb code 8) (zero_or target (Some Reset)) (query_asked code target)))

unfoldable pub operation_of : ℕ → ℕ → ℕ → Option Operation
operation_of code target number =
    cond (eqb code 1) (write_asked target number)
    (cond (eqb code 3) (gate_asked target number)
    (cond (eqb code 4) (Some (Counts target number))
    (cond (eqb code 6) (zero_or target (Some (CatchUp (record { 0 = number }))))
    (cond (eqb code 7) (zero_or target (Some (Run (record { 0 = number }))))
    (cond (eqb code 9) (zero_or target (Some (WorkOff number))) (zero_or number (bare_asked code target)))))))
