-- The count of a channel in one call: latched, and read low byte then high, where demand 3's reading may begin.
use Rattle.std.specs.Prelude.{ℕ, cond, eqb, ltb, Result, Ok, Err}
use Rattle.refusal.specs.Reply.{Reply, refused, accepted}
use Rattle.refusal.specs.Refusal.{refusal_number}
use Rattle.board.specs.declared.Board.{Board}
use Rattle.board.specs.Board.{channel_at, with_channel}
use Rattle.reading.specs.declared.CountError.{CountError}
use Rattle.reading.specs.declared.CountError.TheVariants.{Refused, NotReadable}
use Rattle.reading.specs.declared.CountAnswered.{CountAnswered}
use Rattle.reading.specs.Beginning.{may_begin}
use Rattle.reading.specs.Word.{read_word}

-- the reply, and the board handed back
pub record CountOutcome : Type 0 where
  pub reply : Reply ℕ
  pub board : Board

-- document 01's number and value for each answer. For a channel that a reading may not begin on it has no number: docs/DECISIONS.md 41
abbrev pub error_number : CountError → ℕ
error_number (Refused refusal) = refusal_number refusal
error_number NotReadable = 201

abbrev pub count_reply : Result ℕ CountError → Reply ℕ
count_reply (Ok e) = accepted e
count_reply (Err error) = refused (error_number error)

abbrev pub count_outcome : CountAnswered → CountOutcome
count_outcome r = record { reply = count_reply r.answer; board = r.board }

-- the counting element, and the channel as a latch and the reads of both bytes leave it
abbrev pub count_taken : Board → ℕ → CountOutcome
count_taken b n =
    record { reply = accepted (channel_at b n).counter.counting_element; board = with_channel b n (read_word (channel_at b n)).channel }

-- "Each returns its number and the same board"
abbrev pub not_read : ℕ → Board → CountOutcome
not_read number b = record { reply = refused number; board = b }

-- Refusals 2, 16, 201. While ticks are owed the latch command is refused (02, L1), and so is this call: the count would be the one before them
unfoldable pub read_count : Board → ℕ → CountOutcome
read_count b n =
    cond (ltb 2 n) (not_read 2 b)
    (cond (eqb b.owed.0 0) (cond (may_begin (channel_at b n)) (count_taken b n) (not_read 201 b)) (not_read 16 b))
