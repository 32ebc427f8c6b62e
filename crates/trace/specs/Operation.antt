-- Document 01, "Recorded traces": "operations of six bytes: code, target, number."
use Rattle.std.specs.Prelude.{ℕ, ◌+◌, ◌*◌, ◌%◌, cond, List, eqb, ltb, length, get_or, Option, None, Some}
use Rattle.numbers.specs.Number.{number_at}
use Rattle.trace.specs.declared.rule.Rule.{Rule}
use Rattle.trace.specs.declared.rule.Rule.TheVariants.{Code, Target, NumberNotZero, NumberTooLarge}
use Rattle.trace.specs.declared.operation.Operation.{Operation}
use Rattle.trace.specs.declared.operation.Operation.TheVariants.{WritePort, ReadPort, SetChannelGate, Counts, LoadCycle, CatchUp, Run, Reset, WorkOff}
use Rattle.trace.specs.Sizes.{head_size, operation_size}
use Rattle.trace.specs.Judgement.{Judgement, refused_in, sound, present}
use Rattle.trace.specs.Rule.{broken_rule}

-- "Codes: 1 write port, 2 read port, 3 gate, 4 counts, 5 load cycle, 6 catch-up, 7 run, 8 reset."; "Trace code 9, target 0, works
-- ticks off" (02, L1)
abbrev pub operation_of : ℕ → ℕ → ℕ → Operation
operation_of code target number =
    cond (eqb code 1) (WritePort target number)
    (cond (eqb code 2) (ReadPort target)
    (cond (eqb code 3) (SetChannelGate target (eqb number 1))
    (cond (eqb code 4) (Counts target number)
    (cond (eqb code 5) (LoadCycle target)
    (cond (eqb code 6) (CatchUp (record { 0 = number }))
    (cond (eqb code 7) (Run (record { 0 = number }))
    (cond (eqb code 8) Reset (WorkOff number))))))))

-- the operations stand one after another behind the head
abbrev pub place_of : ℕ → ℕ
place_of index = head_size + operation_size * index

-- 12 "operation code not 1 to 8" ("12 now means not 1 to 9": 02, L1); "19 target not 0 where it must be, 20 number not 0 where it must be, 21 number .. too
-- large" (02, L8): each at its field, inside the operation
abbrev pub judged_by : {A : Type 0} → Option Rule → ℕ → A → Judgement A
judged_by None index value = sound value
judged_by (Some Code) index value = refused_in index 12 (place_of index)
judged_by (Some Target) index value = refused_in index 19 (place_of index + 1)
judged_by (Some NumberNotZero) index value = refused_in index 20 (place_of index + 2)
judged_by (Some NumberTooLarge) index value = refused_in index 21 (place_of index + 2)

-- the operation of an index, whose six bytes begin at a place
abbrev pub six_bytes : List ℕ → ℕ → ℕ → Judgement Operation
six_bytes bytes index place =
    judged_by (broken_rule (get_or bytes place 0) (get_or bytes (place + 1) 0) (number_at bytes (place + 2))) index
    (operation_of (get_or bytes place 0) (get_or bytes (place + 1) 0) (number_at bytes (place + 2)))

-- "Of an operation all six bytes, then code, target, number."
unfoldable pub operation_at : List ℕ → ℕ → Judgement Operation
operation_at bytes index = present bytes (place_of index + operation_size) (six_bytes bytes index (place_of index))

-- a number as the code has it: of a write its low byte. By the rules a write has no other
abbrev pub fitted : ℕ → ℕ → ℕ
fitted code number = cond (eqb code 1) (number % 256) number

-- the operation whose six bytes begin at a place, whatever the rules say of it
abbrev pub unjudged : List ℕ → ℕ → Operation
unjudged bytes place =
    operation_of (get_or bytes place 0) (get_or bytes (place + 1) 0) (fitted (get_or bytes place 0) (number_at bytes (place + 2)))

-- the operation of an index of a sound trace (`in-sound`); where its bytes are missing, a reset stands for it
unfoldable pub operation_in : List ℕ → ℕ → Operation
operation_in bytes index = cond (ltb (length bytes) (place_of index + operation_size)) Reset (unjudged bytes (place_of index))
