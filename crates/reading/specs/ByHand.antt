-- Demand 3 as it was before there was a tick: counts made by hand, and no tick worked off. It is a case of the promise (proofs/ByHand.antt).
use Rattle.std.specs.Prelude.{ℕ, ◌+◌, Bool, false, List, [], ◌∷◌, ◌≡◌}
use Rattle.board.specs.declared.Board.{Board}
use Rattle.step.specs.Operation.{Operation, kind_of}
use Rattle.step.specs.Accepted.{accepted_of}
use Rattle.reading.specs.Counts.{hand_in}
use Rattle.reading.specs.Reading.{Calls, Reading, first_reply, second_reply}
use Rattle.reading.specs.Spelling.{remaining, Spells}

-- the counts that accepted operations make by hand on channel i
abbrev pub hand_on : ℕ → List Operation → ℕ
hand_on i [] = 0
hand_on i (o ∷ os) = hand_in i o + hand_on i os

-- operations with none among them that works ticks off
abbrev pub NoTicks : List Operation → Type 0
NoTicks [] = Unit
NoTicks (o ∷ os) = ((kind_of o).works ≡ false) × NoTicks os

-- "The bytes spell (v - n) mod 65,536, or in BCD ... the digits of (v - n) mod 10,000", n being the counts made by hand
abbrev pub ReadsByHand : Type 0
ReadsByHand =
    (b : Board) (i : ℕ) (bcd : Bool) (v : ℕ) (calls : Calls) → Reading b i bcd v calls → NoTicks (accepted_of b calls.before)
    → Spells (remaining bcd v (hand_on i (accepted_of b calls.before))) (first_reply b i calls) (second_reply b i calls)
