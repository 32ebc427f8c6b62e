-- Document 01, "Recorded traces": the whole of what the replay program prints, from the bytes that it reads. The answers in bytes (Answers.antt) are said in the
-- place of the lines.
use Rattle.std.specs.Prelude.{ℕ, suc, ◌≤◌, List, [], ◌∷◌, ◌++◌, ◌≡◌, length, drop}
use Rattle.refusal.specs.Reply.{Reply}
use Rattle.trace.specs.declared.operation.Operation.{Operation}
use Rattle.trace.specs.Judgement.{Judgement, refused_by, sound}
use Rattle.trace.specs.Trace.{Trace, read_trace}
use Rattle.board.specs.declared.Board.{Board}
use Rattle.board.specs.Outcome.{Value, Outcome}
use Rattle.board.specs.Making.{fresh}
use Rattle.line.specs.Line.{line_room}
use Rattle.line.specs.Lines.{head_line, operation_line, end_line, fault_line}
use Rattle.recorded.specs.Made.{make}
use Rattle.runner.specs.declared.Form.{Form}
use Rattle.runner.specs.declared.Form.TheVariants.{Lines, Answers, Silent}
use Rattle.runner.specs.Answers.{trace_answer_size, trace_answer_bytes}

-- "one line for each operation (its index, then ...)"; or its answer, which has no index; or nothing, where only the board is asked for
abbrev pub said : Form → ℕ → Reply Value → List ℕ → ℕ → List ℕ
said Lines index reply events left = operation_line index reply events left
said Answers index reply events left = trace_answer_bytes reply events left
said Silent index reply events left = []

-- no line is longer, and every answer has so many bytes
abbrev pub room_of : Form → ℕ
room_of Lines = line_room
room_of Answers = trace_answer_size
room_of Silent = 0

-- what is said of an operation's outcome; what is `left` is the remainder after the operation
abbrev pub said_of : Form → ℕ → Outcome → List ℕ
said_of form index o = said form index o.reply o.events o.board.remainder.0

-- what is said of a list of operations, from a board and a first index on
abbrev pub told_from : Form → Board → ℕ → List Operation → List ℕ
told_from form b index [] = []
told_from form b index (o ∷ os) = said_of form index (make b o) ++ told_from form (make b o).board (suc index) os

-- "a head line, one line for each operation ..., and an end line with the operation count"
abbrev pub printed_trace : Trace → List ℕ
printed_trace t =
    head_line t.model t.divisor ++ told_from Lines (fresh t.model t.divisor) 0 t.operations ++ end_line (length t.operations)

-- "a fault prints only `trace refused N at P`"
abbrev pub printed_judgement : Judgement Trace → List ℕ
printed_judgement (refused_by f) = fault_line f
printed_judgement (sound t) = printed_trace t

-- "The replay program reads one trace from standard input"
unfoldable pub printed : List ℕ → List ℕ
printed bytes = printed_judgement (read_trace bytes)

-- the text stands at the front of the lent bytes, its length is answered, and the bytes behind it are as they were
abbrev pub Prints : List ℕ → List ℕ → ℕ → List ℕ → Type 0
Prints text before number after = (number ≡ length text) × (after ≡ text ++ drop (length text) before) × (length text ≤ length before)
