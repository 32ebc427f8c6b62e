-- Document 01, "Recorded traces", and document 02, L7: how many bytes the parts of a trace have, and how many operations and checkpoints there are.
use Rattle.std.specs.Prelude.{ℕ, ◌+◌, ◌*◌, ◌/◌}
use Rattle.board_encoding.specs.Places.{board_size}

-- "count 2, then divisor and model", "operation count": each a "u32"
abbrev pub head_size : ℕ
head_size = 4 * 4

-- "operations of six bytes: code, target, number"
abbrev pub operation_size : ℕ
operation_size = 1 + 1 + 4

-- 11 "operation count above 4,096"
abbrev pub most_operations : ℕ
most_operations = 4096

-- "the whole board as it stands after each 256 operations" (02, L7)
abbrev pub checkpoint_every : ℕ
checkpoint_every = 256

-- "the operations divided by 256, rounded down" (02, L7)
abbrev pub checkpoints_of : ℕ → ℕ
checkpoints_of operations = operations / checkpoint_every

-- the checkpoints' count, a "u32"
abbrev pub count_size : ℕ
count_size = 4

abbrev pub longest_trace : ℕ
longest_trace = head_size + operation_size * most_operations + count_size + board_size * checkpoints_of most_operations
