-- Document 02, L7: "the whole board as it stands after each 256 operations". Checkpoint k, counted from 0, is the board after 256(k + 1) operations.
use Rattle.std.specs.Prelude.{ℕ, zero, suc, ◌*◌, cond, List, [], ◌++◌, length, take, drop}
use Rattle.numbers.specs.Little.{four_bytes}
use Rattle.board.specs.declared.Board.{Board}
use Rattle.board.specs.Making.{fresh}
use Rattle.board_encoding.specs.Places.{board_size}
use Rattle.board_encoding.specs.Stored.{board_bytes}
use Rattle.trace.specs.Sizes.{checkpoint_every, checkpoints_of}
use Rattle.trace.specs.Section.{checkpoint_place, section_begun}
use Rattle.trace.specs.Trace.{Trace}
use Rattle.recorded.specs.Made.{make_all}

-- how many operations a trace has
abbrev pub size : Trace → ℕ
size t = length t.operations

-- how many operations come before checkpoint k
abbrev pub operations_to : ℕ → ℕ
operations_to k = checkpoint_every * suc k

-- the board after so many operations of a trace, refused ones counted: "A refused operation does not stop the rest."
abbrev pub board_after : Trace → ℕ → Board
board_after t number = make_all (fresh t.model t.divisor) (take number t.operations)

abbrev pub checkpoint : Trace → ℕ → Board
checkpoint t k = board_after t (operations_to k)

-- the boards from checkpoint k on, as many as are left, one after another
abbrev pub boards_from : Trace → ℕ → ℕ → List ℕ
boards_from t k zero = []
boards_from t k (suc left) = board_bytes (checkpoint t k) ++ boards_from t (suc k) left

-- section three of a trace: "a count, then the whole board as it stands after each 256 operations"
abbrev pub section_of : Trace → List ℕ
section_of t = four_bytes (checkpoints_of (size t)) ++ boards_from t 0 (checkpoints_of (size t))

-- as many bytes as a board has, at a place
abbrev pub board_part : List ℕ → ℕ → List ℕ
board_part bytes place = take board_size (drop place bytes)

-- the bytes of checkpoint k, in those of a trace of so many operations
abbrev pub checkpoint_bytes : List ℕ → ℕ → ℕ → List ℕ
checkpoint_bytes bytes operations k = board_part bytes (checkpoint_place operations k)

-- how many checkpoints stand in the bytes of a sound trace: "The section may be missing."
abbrev pub checkpoints_in : List ℕ → ℕ → ℕ
checkpoints_in bytes operations = cond (section_begun bytes operations) (checkpoints_of operations) 0
