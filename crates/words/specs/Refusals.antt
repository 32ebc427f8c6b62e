-- The words of a refusal, by its number: document 01, "Refusal numbers", and requests L1, L6, L7 and L8 of document 02.
use Rattle.std.specs.Prelude.{ℕ, cond, List, [], ◌∷◌, ◌++◌, eqb}
use Prim.Native.String.{String}
use Rattle.text.specs.Ascii.{ascii}

-- a number and the words for it
pub record Row : Type 0 where
  pub number : ℕ
  pub words : List ℕ

abbrev pub row : ℕ → String → Row
row number words = record { number = number; words = ascii words }

-- the words in the row of a number, or other words where no row has it
abbrev pub words_in : List Row → ℕ → List ℕ → List ℕ
words_in [] number other = other
words_in (r ∷ rows) number other = cond (eqb number r.number) r.words (words_in rows number other)

-- document 01's refusals of a call. 6 is gone: "6 is never given again" (02, L6)
abbrev pub call_rows : List Row
call_rows =
    -- "port not 0x40 to 0x43"
    row 1 "the port is not 40 to 43" ∷
    -- "channel above 2"
    row 2 "the channel is not 0, 1 or 2" ∷
    -- "divisor 0"
    row 3 "the divisor is 0" ∷
    -- "ticks below the warp"
    row 4 "fewer ticks are given than were already caught up" ∷
    -- "remainder + (ticks - warp) above 4,294,967,295"
    row 5 "the ticks to divide are more than 4294967295" ∷
    -- "event place past the end of the event bytes"
    row 7 "the event place is past the end of the event bytes" ∷
    -- "an event is due and fewer than 2 bytes are left from the place"
    row 8 "an event is due and fewer than 2 event bytes are left" ∷
    []

-- document 01's refusals of a trace. 14 is gone: "14 is no longer given" (02, L8)
abbrev pub trace_rows : List Row
trace_rows =
    -- "trace ends inside a field or operation", or before it; from L7 on it can be a checkpoint's board too
    row 9 "a field, an operation or a board is not wholly there" ∷
    -- "settings count not 2"
    row 10 "the settings count is not 2" ∷
    -- "operation count above 4,096"
    row 11 "there are more than 4096 operations" ∷
    -- "12 now means not 1 to 9" (02, L1)
    row 12 "the operation code is not 1 to 9" ∷
    -- "13 means bytes after the last section present" (02, L7)
    row 13 "bytes follow the last section" ∷
    []

-- those that document 02 adds
abbrev pub added_rows : List Row
added_rows =
    -- "15 for a stated number above 65,536" (L1)
    row 15 "more than 65536 ticks are asked for" ∷
    -- "16 for a port write, gate, reset, catch-up or run while ticks are owed" (L1)
    row 16 "ticks are still owed" ∷
    -- "17 for a checkpoint count other than the operations divided by 256, rounded down" (L7)
    row 17 "the checkpoint count is not one for each 256 operations" ∷
    -- "18 for the first checkpoint whose bytes differ, unreadable ones too", and "for a replay from one that is missing or unreadable" (L7)
    row 18 "the checkpoint is missing, unreadable or not the board there" ∷
    -- "19 target not 0 where it must be" (L8)
    row 19 "the target is not 0 where it must be" ∷
    -- "20 number not 0 where it must be" (L8)
    row 20 "the number is not 0 where it must be" ∷
    -- "21 number or model too large" (L8)
    row 21 "the number or the model is too large" ∷
    []

-- the words of a refusal, by its number; of a number that no refusal has there are none
unfoldable pub refusal_words : ℕ → List ℕ
refusal_words number = words_in (call_rows ++ trace_rows ++ added_rows) number []
