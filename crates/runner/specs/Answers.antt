-- docs/ENCODING.md, "The answers of a trace: 16 bytes an operation".
use Rattle.std.specs.Prelude.{ℕ, ◌+◌, ◌*◌, cond, List, ◌∷◌, ◌++◌, ltb, get_or}
use Rattle.numbers.specs.Flags.{flag_number}
use Rattle.numbers.specs.Little.{four_bytes}
use Rattle.refusal.specs.Reply.{Reply, refused, accepted}
use Rattle.latch.specs.Label.{half_number}
use Rattle.board.specs.declared.PortRead.{PortRead}
use Rattle.board.specs.Outcome.{Value, done, new_place, byte, ticks, output_state, channel_count, retriggers, dirty_marks, timer_accum, worked}
use Rattle.runner.specs.declared.answering.Said.{Said}

-- "16 bytes an operation": the table's lines
abbrev pub trace_answer_size : ℕ
trace_answer_size = 1 + 1 + 6 + 4 + 4

-- "the refusal's number, or 0", "how many event bytes were written", "the timer ticks yielded, or the ticks made", or what was read
abbrev pub saying : ℕ → ℕ → ℕ → Said
saying refusal written value = record { refusal = refusal; written = written; value = value }

-- of a read: "8 the byte, 9 its half, 10 1 if it was held, 11 0" (`read-bytes`)
abbrev pub read_number : PortRead → ℕ
read_number r = r.byte + 256 * half_number r.label.half + 65536 * flag_number r.label.held

-- events are lent "at place 0", so as many bytes were written as the new place says; no more than six are lent
abbrev pub bytes_written : ℕ → ℕ
bytes_written place = cond (ltb 6 place) 6 place

-- "0 where none of them is answered"
abbrev pub said_by : Value → Said
said_by (new_place place) = saying 0 (bytes_written place) 0
said_by (byte r) = saying 0 0 (read_number r)
said_by (ticks number) = saying 0 0 number
said_by done = saying 0 0 0
said_by (output_state level) = saying 0 0 0
said_by (channel_count register element counting) = saying 0 0 0
said_by (retriggers answer) = saying 0 0 0
said_by (dirty_marks dirty counting ticked) = saying 0 0 0
said_by (timer_accum number) = saying 0 0 0
said_by (worked made place) = saying 0 (bytes_written place) made

abbrev pub said_in : Reply Value → Said
said_in (refused number) = saying number 0 0
said_in (accepted value) = said_by value

-- places 0 and 1; 2 to 7 "the lent event bytes after the operation"; 8 to 11; 12 to 15 "the remainder after the operation"
abbrev pub said_bytes : Said → List ℕ → ℕ → List ℕ
said_bytes s events left =
    s.refusal ∷ s.written ∷ get_or events 0 0 ∷ get_or events 1 0 ∷ get_or events 2 0 ∷ get_or events 3 0 ∷ get_or events 4 0 ∷ get_or events 5 0
    ∷ four_bytes s.value ++ four_bytes left

unfoldable pub trace_answer_bytes : Reply Value → List ℕ → ℕ → List ℕ
trace_answer_bytes reply events left = said_bytes (said_in reply) events left
