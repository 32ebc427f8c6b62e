-- Document 01, "Recorded traces": what a line of a replay can say.
use Rattle.std.specs.Prelude.{ℕ, List}
use Rattle.trace.specs.Answer.{fault_of}
use Rattle.board.specs.Answer.{reply_of}
use Rattle.line.specs.declared.sentence.Sentence.{Sentence}
use Rattle.line.specs.declared.sentence.Sentence.TheVariants.{Head, Operation, End, Fault, Checked}
use Rattle.line.specs.Lines.{head_line, operation_line, end_line, checked_line, fault_line}

-- "a head line, one line for each operation .., and an end line"; "a fault prints only .."
abbrev pub sentence_text : Sentence → List ℕ
sentence_text (Head model divisor) = head_line model divisor
sentence_text (Operation index answer events left) = operation_line index (reply_of answer) events left.0
sentence_text (End number) = end_line number
sentence_text (Fault fault) = fault_line (fault_of fault)
-- how many checkpoints are right (02, L7)
sentence_text (Checked number) = checked_line number
