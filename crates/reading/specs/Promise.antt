-- Demand 3 itself, over the step of the board, and what goes with it. All are proved in proofs/Promise.antt; docs/READING.md says them in words. What the words of any two
-- reads are worth is in Held.antt.
use Rattle.std.specs.Prelude.{ℕ, ◌<◌, Bool, List, ◌≡◌, length}
use Rattle.numbers.specs.Radix.{radix_counts}
use Rattle.refusal.specs.Reply.{accepted}
use Rattle.board.specs.declared.Board.{Board}
use Rattle.step.specs.Operation.{Operation}
use Rattle.step.specs.Step.{steps}
use Rattle.step.specs.Accepted.{IsAccepted, accepted_of}
use Rattle.reading.specs.Beginning.{Begins}
use Rattle.reading.specs.Passing.{AllMayPass, NoLoads}
use Rattle.reading.specs.Counts.{counts_on}
use Rattle.reading.specs.Reading.{Calls, latch, three_calls, at_end, first_reply, second_reply, counts_made, counts_in_all, NoLaterLoads, Reading}
use Rattle.reading.specs.Spelling.{remaining, Gives, Spells}
use Rattle.reading.specs.ReadCount.{read_count}

-- "The bytes spell (v - n) mod 65,536, or in BCD, v read as decimal, the digits of (v - n) mod 10,000." By 02, L3, the reads say `low held`, then `high held`.
abbrev pub ReadsTheCount : Type 0
ReadsTheCount =
    (b : Board) (i : ℕ) (bcd : Bool) (v : ℕ) (calls : Calls) → Reading b i bcd v calls
    → Spells (remaining bcd v (counts_made b i calls)) (first_reply b i calls) (second_reply b i calls)

-- "So two runs from one v in one radix whose n differ, both below that modulus, never read alike." Boards, channels and lists may differ. It is the bytes that are
-- never alike, whatever is said of them.
abbrev pub NeverAlike : Type 0
NeverAlike =
    (bcd : Bool) (v : ℕ) (b : Board) (i : ℕ) (calls : Calls) → Reading b i bcd v calls → (c : Board) (j : ℕ) (others : Calls) → Reading c j bcd v others
    → counts_made b i calls < radix_counts bcd
    → counts_made c j others < radix_counts bcd
    → (counts_made b i calls ≡ counts_made c j others → ⊥)
    → (x y : ℕ) → Gives x (first_reply b i calls) → Gives y (second_reply b i calls)
    → Gives x (first_reply c j others)
    → Gives y (second_reply c j others)
    → ⊥

-- One reading after another: at its end the next may begin, from v less all counts, those after the latch included, if no tick after the latch loaded the channel either.
abbrev pub BeginsAgain : Type 0
BeginsAgain =
    (b : Board) (i : ℕ) (bcd : Bool) (v : ℕ) (calls : Calls) → Reading b i bcd v calls → NoLaterLoads b i calls
    → Begins (at_end b i calls) i bcd (remaining bcd v (counts_in_all b i calls))

-- The same promise of one call of the library, `read_count`: after n counts, whatever else passes, it answers v - n, if no tick is owed then ..
abbrev pub CountsThenReads : Type 0
CountsThenReads =
    (b : Board) (i : ℕ) (bcd : Bool) (v : ℕ) → Begins b i bcd v → (os : List Operation) → AllMayPass b.model i (accepted_of b os) → NoLoads i b os
    → (steps b os).owed.0 ≡ 0
    → (read_count (steps b os) i).reply ≡ accepted (remaining bcd v (counts_on i b os))

-- .. and wherever it answers a count the latch and the two reads are accepted, spell that count, and leave the same board
abbrev pub AsThreeCalls : Type 0
AsThreeCalls =
    (b : Board) (i e : ℕ) → length b.channels ≡ 3 → (read_count b i).reply ≡ accepted e
    → IsAccepted b (latch (three_calls i)) × Spells e (first_reply b i (three_calls i)) (second_reply b i (three_calls i))
    × ((read_count b i).board ≡ at_end b i (three_calls i))

-- .. so that the next reading may begin from the same count
abbrev pub ReadsAndBegins : Type 0
ReadsAndBegins = (b : Board) (i : ℕ) (bcd : Bool) (v : ℕ) → Begins b i bcd v → Begins (read_count b i).board i bcd v
