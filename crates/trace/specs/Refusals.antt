-- Document 01, "Refusal numbers" and "Recorded traces", and document 02, L7 and L8: the table's conditions for a trace, each with its place, in the order in which they are
-- tested.
use Rattle.std.specs.Prelude.{ℕ, zero, suc, ◌+◌, ◌<◌, ◌≤◌, List, [], ◌∷◌, ◌++◌, map, ◌⊎◌, ◌≡◌, length, get_or, Option, None, Some}
use Rattle.numbers.specs.Number.{number_at}
use Rattle.trace.specs.Judgement.{Faulted, fault_at, fault_in}
use Rattle.trace.specs.Sizes.{operation_size, most_operations, checkpoints_of, count_size}
use Rattle.trace.specs.Operation.{place_of}
use Rattle.trace.specs.Section.{section_end}

-- a number of the table, "P the field's offset", and its "Given exactly when"
pub record Row : Type 1 where
  pub fault : Faulted
  pub condition : Type 0

-- 9: "trace ends inside a field or operation"; P is "total length for 9"
abbrev pub ends_before : List ℕ → ℕ → Row
ends_before bytes end = record { fault = fault_at 9 (length bytes); condition = length bytes < end }

-- 10: "settings count not 2"
abbrev pub settings_count : List ℕ → Row
settings_count bytes = record { fault = fault_at 10 0; condition = number_at bytes 0 ≡ 2 → ⊥ }

-- "A zero divisor is 3."
abbrev pub divisor_zero : List ℕ → Row
divisor_zero bytes = record { fault = fault_at 3 4; condition = number_at bytes 4 ≡ 0 }

-- 21: "number or model too large" (02, L8); "model (0 8253, 1 8254)"
abbrev pub model_above1 : List ℕ → Row
model_above1 bytes = record { fault = fault_at 21 8; condition = 1 < number_at bytes 8 }

-- 11: "operation count above 4,096"
abbrev pub too_many_operations : List ℕ → Row
too_many_operations bytes = record { fault = fault_at 11 12; condition = most_operations < number_at bytes 12 }

-- the fields of the operation of an index
abbrev pub code_at : List ℕ → ℕ → ℕ
code_at bytes index = get_or bytes (place_of index) 0

abbrev pub target_at : List ℕ → ℕ → ℕ
target_at bytes index = get_or bytes (place_of index + 1) 0

abbrev pub given_at : List ℕ → ℕ → ℕ
given_at bytes index = number_at bytes (place_of index + 2)

-- 12: "operation code not 1 to 8"; "12 now means not 1 to 9" (02, L1)
abbrev pub unknown_code : List ℕ → ℕ → Row
unknown_code bytes index =
    record { fault = fault_in index 12 (place_of index); condition = (1 ≤ code_at bytes index) × (code_at bytes index ≤ 9) → ⊥ }

-- "Target 0 for 6, 7, 8."; "Trace code 9, target 0" (02, L1)
abbrev pub TargetRule : ℕ → ℕ → Type 0
TargetRule code target = (code ≡ 6) ⊎ ((code ≡ 7) ⊎ ((code ≡ 8) ⊎ (code ≡ 9))) → target ≡ 0

-- 19: "target not 0 where it must be" (02, L8)
abbrev pub target_not_zero : List ℕ → ℕ → Row
target_not_zero bytes index =
    record { fault = fault_in index 19 (place_of index + 1); condition = TargetRule (code_at bytes index) (target_at bytes index) → ⊥ }

-- "Number 0 for 2, 5, 8"
abbrev pub ZeroRule : ℕ → ℕ → Type 0
ZeroRule code number = (code ≡ 2) ⊎ ((code ≡ 5) ⊎ (code ≡ 8)) → number ≡ 0

-- 20: "number not 0 where it must be" (02, L8)
abbrev pub number_not_zero : List ℕ → ℕ → Row
number_not_zero bytes index =
    record { fault = fault_in index 20 (place_of index + 2); condition = ZeroRule (code_at bytes index) (given_at bytes index) → ⊥ }

-- "at most 255 for 1; at most 1 for 3."
abbrev pub SizeRule : ℕ → ℕ → Type 0
SizeRule code number = (code ≡ 1 → number ≤ 255) × (code ≡ 3 → number ≤ 1)

-- 21: "number or model too large" (02, L8)
abbrev pub number_too_large : List ℕ → ℕ → Row
number_too_large bytes index =
    record { fault = fault_in index 21 (place_of index + 2); condition = SizeRule (code_at bytes index) (given_at bytes index) → ⊥ }

-- 17: "a checkpoint count other than the operations divided by 256, rounded down" (02, L7)
abbrev pub checkpoint_count : List ℕ → ℕ → Row
checkpoint_count bytes operations =
    record { fault = fault_at 17 (place_of operations); condition = number_at bytes (place_of operations) ≡ checkpoints_of operations → ⊥ }

-- 13: "bytes after the last section present" (02, L7); P is "first extra byte for 13"
abbrev pub bytes_after : List ℕ → ℕ → Row
bytes_after bytes place = record { fault = fault_at 13 place; condition = place < length bytes }

-- "Fields are checked from the front: bytes present, then the rule."
abbrev pub head_order : List ℕ → List Row
head_order bytes =
    ends_before bytes 4 ∷ settings_count bytes ∷ ends_before bytes 8 ∷ divisor_zero bytes ∷ ends_before bytes 12 ∷ model_above1 bytes ∷ ends_before bytes 16
    ∷ too_many_operations bytes ∷ []

-- "Of an operation all six bytes, then code, target, number."
abbrev pub operation_order : List ℕ → ℕ → List Row
operation_order bytes index =
    ends_before bytes (place_of index + operation_size) ∷ unknown_code bytes index ∷ target_not_zero bytes index ∷ number_not_zero bytes index
    ∷ number_too_large bytes index ∷ []

-- the operations from an index on, as many as are left
abbrev pub operations_order : List ℕ → ℕ → ℕ → List Row
operations_order bytes index zero = []
operations_order bytes index (suc left) = operation_order bytes index ++ operations_order bytes (suc index) left

-- a condition that counts only where something else holds
abbrev pub only : Type 0 → Row → Row
only P r = record { fault = r.fault; condition = P × r.condition }

-- "The section may be missing" (02, L7). Where it is begun: "9 covers an unfinished section", 17 before the boards, 13 behind them
abbrev pub section_order : List ℕ → ℕ → List Row
section_order bytes operations =
    map (only (place_of operations < length bytes))
    (ends_before bytes (place_of operations + count_size) ∷ checkpoint_count bytes operations ∷ ends_before bytes (section_end operations)
    ∷ bytes_after bytes (section_end operations) ∷ [])

-- all that a trace is tested for, from the front
abbrev pub order : List ℕ → List Row
order bytes = head_order bytes ++ operations_order bytes 0 (number_at bytes 12) ++ section_order bytes (number_at bytes 12)

-- the first fault whose condition holds: it holds, and none before it does
abbrev pub FirstAt : List Row → Faulted → Type 0
FirstAt [] f = ⊥
FirstAt (r ∷ rest) f = ((f ≡ r.fault) × r.condition) ⊎ ((r.condition → ⊥) × FirstAt rest f)

-- an index that is named (02, L8) is one of so many operations, all its bytes are there, and the place is inside it
abbrev pub NamedIn : List ℕ → ℕ → ℕ → Option ℕ → Type 0
NamedIn bytes operations place None = Unit
NamedIn bytes operations place (Some index) =
    (index < operations) × (operations ≤ most_operations) × (place_of index ≤ place) × (place < place_of index + operation_size)
    × (place_of index + operation_size ≤ length bytes)
