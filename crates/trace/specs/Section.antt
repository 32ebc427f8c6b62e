-- Document 02, L7: "Add a third section to the trace: a count, then the whole board as it stands after each 256 operations"; "The section may be missing." Here is
-- its form. What the boards say is looked at in the full check and in a replay from one of them (the crate checkpoint).
use Rattle.std.specs.Prelude.{ℕ, ◌+◌, ◌*◌, Bool, not, cond, List, eqb, ltb, length}
use Rattle.board_encoding.specs.Places.{board_size}
use Rattle.trace.specs.Sizes.{checkpoints_of, count_size}
use Rattle.trace.specs.Judgement.{Judgement, sound, present, ruled}
use Rattle.trace.specs.Head.{field}
use Rattle.trace.specs.Operation.{place_of}

-- section three begins where the last operation ends: the count, then the boards one after another. The first byte of checkpoint k, counted from 0
abbrev pub checkpoint_place : ℕ → ℕ → ℕ
checkpoint_place operations k = place_of operations + count_size + board_size * k

-- where it ends
abbrev pub section_end : ℕ → ℕ
section_end operations = checkpoint_place operations (checkpoints_of operations)

-- "The section may be missing": it is exactly when the bytes end with the last operation, and any byte more is a section begun
abbrev pub section_begun : List ℕ → ℕ → Bool
section_begun bytes operations = ltb (place_of operations) (length bytes)

-- "9 covers an unfinished section, and 13 means bytes after the last section present"
abbrev pub boards_there : List ℕ → ℕ → Judgement Unit
boards_there bytes operations =
    present bytes (section_end operations) (ruled (ltb (section_end operations) (length bytes)) 13 (section_end operations) (sound tt))

-- "17 for a checkpoint count other than the operations divided by 256, rounded down": as soon as the count is there, before its boards
unfoldable pub section_three : List ℕ → ℕ → Judgement Unit
section_three bytes operations =
    cond (section_begun bytes operations)
    (field bytes (place_of operations) (λ count. not (eqb count (checkpoints_of operations))) 17 (boards_there bytes operations))
    (sound tt)
