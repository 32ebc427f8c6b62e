-- The words of every refusal, and of every rule of a trace, fit a line. Assumes nothing.
use Prim.Native.Nat.{ℕ, ◌≤◌, max}
use mathlib.Core.Bool.{cond}
use mathlib.Core.List.{List, [], ◌∷◌, ◌++◌}
use native.Mathlib.Nat.{le-max_left, le-max_right, le_trans}
use native.Mathlib.Omega.{arith}
use lib.Dec.{eqb}
use lib.ListN.{length}
use Rattle.channel.proofs.Pick.{pick-holds}
use Rattle.line.specs.Line.{line_room}
use Rattle.words.specs.Refusals.{Row, words_in, call_rows, trace_rows, added_rows, refusal_words}
use Rattle.words.specs.Faults.{target_rows, zero_rows, size_rows, rules_of, rule_words}

abbrev longest : List Row → ℕ
longest [] = 0
longest (r ∷ rows) = max (length r.words) (longest rows)

none-longer : (rows : List Row) (number : ℕ) (other : List ℕ) (room : ℕ) → longest rows ≤ room → length other ≤ room
    → length (words_in rows number other) ≤ room
none-longer [] number other room h k = k
none-longer (r ∷ rows) number other room h k =
    pick-holds (λ words. length words ≤ room) (eqb number r.number) r.words (words_in rows number other)
    (le_trans (le-max_left (length r.words) (longest rows)) h)
    (none-longer rows number other room (le_trans (le-max_right (length r.words) (longest rows)) h) k)

pub refusal-short : (number : ℕ) → length (refusal_words number) ≤ line_room
unfolding refusal_words
refusal-short number = none-longer (call_rows ++ trace_rows ++ added_rows) number [] line_room (omega arith) (omega arith)

pub rule-short : (number code : ℕ) → length (rule_words number code) ≤ line_room
unfolding rule_words
rule-short number code =
    none-longer (rules_of number) code (refusal_words number) line_room
    (pick-holds (λ rows. longest rows ≤ line_room) (eqb number 19) target_rows (cond (eqb number 20) zero_rows (cond (eqb number 21) size_rows [])) (omega arith)
    (pick-holds (λ rows. longest rows ≤ line_room) (eqb number 20) zero_rows (cond (eqb number 21) size_rows []) (omega arith)
    (pick-holds (λ rows. longest rows ≤ line_room) (eqb number 21) size_rows [] (omega arith) (omega arith))))
    (refusal-short number)
