-- docs/ENCODING.md, "An operation: three numbers": what a code, a number and a setting ask for.
use Rattle.std.specs.Prelude.{ℕ, cond, eqb, ltb, Option, Some, None}
use Rattle.channel.specs.declared.PitType.TheVariants.{Model8253, Model8254}
use Rattle.channel_operation.specs.declared.Operation.{Operation}
use Rattle.channel_operation.specs.declared.Operation.TheVariants.{WriteByte, ReadByte, SetGate, Count, LoadCycle, Reset, ControlByte, GetOutputState, GetChannelCount, DoesChannelRetrigger, IsDirty}

-- code 1: any byte; "the board's defer flag, 0 or 1"
unfoldable pub write_asked : ℕ → ℕ → Option Operation
write_asked number setting = cond (ltb 1 setting) None (Some (WriteByte number (eqb setting 1)))

-- code 3: "the level, 0 or 1"; the setting says nothing
unfoldable pub gate_asked : ℕ → ℕ → Option Operation
gate_asked number setting = cond (eqb setting 0) (cond (ltb 1 number) None (Some (SetGate (eqb number 1)))) None

-- code 16: any byte; "the model: 0 8253, 1 8254"
unfoldable pub control_asked : ℕ → ℕ → Option Operation
control_asked number setting =
    cond (eqb setting 0) (Some (ControlByte number Model8253)) (cond (eqb setting 1) (Some (ControlByte number Model8254)) None)

-- the codes of the other operations
unfoldable pub code_asked : ℕ → Option Operation
code_asked code =
    cond (eqb code 2) (Some ReadByte)
    (cond (eqb code 4) (Some Count)
    (cond (eqb code 5) (Some LoadCycle)
    (cond (eqb code 8) (Some Reset)
    (cond (eqb code 17) (Some GetOutputState)
    (cond (eqb code 18) (Some GetChannelCount) (cond (eqb code 19) (Some DoesChannelRetrigger) (cond (eqb code 20) (Some IsDirty) None)))))))

-- "Where a number or a setting says nothing it must be 0."
unfoldable pub bare_asked : ℕ → ℕ → ℕ → Option Operation
bare_asked code number setting = cond (eqb number 0) (cond (eqb setting 0) (code_asked code) None) None

unfoldable pub operation_of : ℕ → ℕ → ℕ → Option Operation
operation_of code number setting =
    cond (eqb code 1) (write_asked number setting)
    (cond (eqb code 3) (gate_asked number setting)
    (cond (eqb code 16) (control_asked number setting) (bare_asked code number setting)))
