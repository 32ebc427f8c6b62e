-- The traces that this program makes of the trace on its standard input, which has 600 operations of six bytes behind its head of 16.
use Rattle.std.specs.Prelude.{ℕ, zero, suc, ◌+◌, ◌-◌, ◌*◌, ◌%◌, List, take, replicate, slice_index, slice_set}
use Rattle.numbers.specs.Little.{four_bytes}
use Rattle.text.specs.Put.{Put, put}
use Rattle.trace.specs.Sizes.{longest_trace}
use Rattle.runner.specs.Lent.{Replaying}
use Rattle.checkpoint.specs.Mark.{mark_into}
use Rattle.checkpoint_limits.specs.Asked.{end_written}

-- room for the longest trace, and a byte more
unfoldable pub blank : List ℕ
blank = replicate (longest_trace + 1) 0

-- as many bytes as are left, from a place on: those of the source's operations, over and over
unfoldable pub over_and_over : List ℕ → ℕ → ℕ → List ℕ → List ℕ
over_and_over source place zero bytes = bytes
over_and_over source place (suc left) bytes = over_and_over source (suc place) left (slice_set bytes place (slice_index source (16 + (place - 16) % 3600)))

-- the source's head with another number of operations, and so many of them
unfoldable pub plain_for : List ℕ → ℕ → List ℕ → Put
plain_for source operations bytes =
    let head = (put (four_bytes operations) (put source bytes 0).bytes 12).bytes in
    record { place = 16 + 6 * operations; bytes = over_and_over source 16 (6 * operations) head }

abbrev pub end_and_bytes : Replaying → Put
end_and_bytes r = record { place = end_written r.reply; bytes = r.bytes }

-- the same with its checkpoints
abbrev pub marked_of : Put → List ℕ → Put
marked_of plain bytes = end_and_bytes (mark_into (take plain.place plain.bytes) bytes)

unfoldable pub marked_for : List ℕ → ℕ → List ℕ → Put
marked_for source operations bytes = marked_of (plain_for source operations blank) bytes
