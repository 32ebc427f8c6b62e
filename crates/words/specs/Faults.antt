-- A fault of a trace as a sentence: where it stands, the rule that is broken, and what stands there. As in
--   operation 12, byte 90: a gate's level is 0 or 1; here it is 2
use Rattle.std.specs.Prelude.{ℕ, ◌+◌, Bool, cond, ◌||◌, List, [], ◌∷◌, ◌++◌, eqb, ltb, length, get_or, Option, None, Some}
use Rattle.numbers.specs.Number.{number_at}
use Rattle.trace.specs.Judgement.{Faulted}
use Rattle.trace.specs.Operation.{place_of}
use Rattle.text.specs.Ascii.{ascii}
use Rattle.text.specs.Number.{decimal}
use Rattle.line.specs.Lines.{newline}
use Rattle.words.specs.Refusals.{Row, row, words_in, refusal_words}

-- "the operation's index, counted from 0" (02, L8), where the fault stands inside one
abbrev pub which_words : Option ℕ → List ℕ
which_words None = []
which_words (Some index) = ascii "operation " ++ decimal index ++ ascii ", "

-- .. "beside the byte offset"
unfoldable pub where_words : Option ℕ → ℕ → List ℕ
where_words operation place = which_words operation ++ ascii "byte " ++ decimal place ++ ascii ": "

-- "Target 0 for 6, 7, 8."; "Trace code 9, target 0" (02, L1)
abbrev pub target_rows : List Row
target_rows =
    row 6 "a catch-up's target is 0" ∷ row 7 "a run's target is 0" ∷ row 8 "a reset's target is 0" ∷ row 9 "a work-off's target is 0" ∷ []

-- "Number 0 for 2, 5, 8"
abbrev pub zero_rows : List Row
zero_rows = row 2 "a port read's number is 0" ∷ row 5 "a load cycle's number is 0" ∷ row 8 "a reset's number is 0" ∷ []

-- "at most 255 for 1; at most 1 for 3"; outside operations, the code 0 below, the model: "(0 8253, 1 8254)"
abbrev pub size_rows : List Row
size_rows = row 0 "the model is 0 or 1" ∷ row 1 "a written byte is at most 255" ∷ row 3 "a gate's level is 0 or 1" ∷ []

-- the rules that one number stands for, by the operation's code
abbrev pub rules_of : ℕ → List Row
rules_of number = cond (eqb number 19) target_rows (cond (eqb number 20) zero_rows (cond (eqb number 21) size_rows []))

-- the rule that is broken, for the operation's code; where the number stands for one rule only, that refusal's own words
unfoldable pub rule_words : ℕ → ℕ → List ℕ
rule_words number code = words_in (rules_of number) code (refusal_words number)

-- the code of the operation that a fault stands in, its first byte; 0, which is no code, where it stands in none
abbrev pub code_in : List ℕ → Option ℕ → ℕ
code_in trace None = 0
code_in trace (Some index) = get_or trace (place_of index) 0

-- text, and the byte at a place; nothing where the trace has no byte there
abbrev pub byte_there : List ℕ → List ℕ → ℕ → List ℕ
byte_there text trace place = cond (ltb place (length trace)) (text ++ decimal (get_or trace place 0)) []

-- the number whose four bytes begin at a place; nothing where the trace does not have all four
abbrev pub number_there : List ℕ → ℕ → List ℕ
number_there trace place = cond (ltb (length trace) (place + 4)) [] (ascii "; here it is " ++ decimal (number_at trace place))

-- a code (12) and a target (19) are one byte
abbrev pub of_byte : ℕ → Bool
of_byte number = eqb number 12 || eqb number 19

-- the counts of settings (10), operations (11) and checkpoints (17), an operation's number (20, 21) and the model (21) are numbers
abbrev pub of_number : ℕ → Bool
of_number number = eqb number 10 || (eqb number 11 || (eqb number 17 || (eqb number 20 || eqb number 21)))

-- what stands at the place. A trace that is too short (9) ends there; of bytes too many (13) it is the first; of a checkpoint's board, and of what is no
-- refusal of a trace, nothing is shown
unfoldable pub there_words : ℕ → List ℕ → ℕ → List ℕ
there_words number trace place =
    cond (eqb number 9) (ascii "; here the trace ends")
    (cond (eqb number 13) (byte_there (ascii "; the first is ") trace place)
    (cond (of_byte number) (byte_there (ascii "; here it is ") trace place)
    (cond (of_number number) (number_there trace place) [])))

-- a fault of a trace in words
unfoldable pub fault_sentence : List ℕ → Faulted → List ℕ
fault_sentence trace f =
    where_words f.operation f.place ++ rule_words f.number (code_in trace f.operation) ++ there_words f.number trace f.place
    ++ newline

-- room for every such sentence
abbrev pub fault_room : ℕ
fault_room = 160
