-- What is printed of a whole trace: the lines behind one another stand at the front of the lent bytes. Assumes nothing.
use Prim.Native.Nat.{ℕ, ◌+◌, ◌-◌, ◌*◌, ◌≤◌}
use mathlib.Core.List.{List}
use mathlib.Core.Path.{◌≡◌, sym, ap, subst, ◌∙◌}
use native.Mathlib.Nat.{zero-add}
use native.Mathlib.Omega.{arith}
use lib.ListN.{length, take, length-append}
use lib.Seq.{length-take-le}
use Rattle.io.specs.Counts.{IsPrefixLen}
use Rattle.channel.specs.declared.PitType.{PitType}
use Rattle.channel.proofs.Pick.{of-pick, pick_same}
use Rattle.board.specs.declared.Board.{Board}
use Rattle.board.specs.Outcome.{Outcome}
use Rattle.board.specs.Making.{fresh, new}
use Rattle.text.proofs.Puts.{Wrote, put-fits}
use Rattle.trace.specs.declared.operation.Operation.{Operation}
use Rattle.trace.specs.Judgement.{sound}
use Rattle.trace.specs.Sizes.{longest_trace}
use Rattle.trace.specs.Trace.{operations_from}
use Rattle.trace.specs.Inner.{soundness}
use Rattle.trace.proofs.Enough.{first-bytes-decide}
use Rattle.runner.specs.declared.Form.{Form}
use Rattle.runner.specs.declared.Told.{Told}
use Rattle.runner.specs.Printed.{room_of, told_from, printed_judgement, printed, Prints}
use Rattle.runner.specs.Inner.{to_tell, found_from, Puts, Tells}
use Rattle.runner.proofs.Loop.{found-are, told-whole}

-- the board beside a refusal is the fresh one too
pub new-board : (model : PitType) (divisor : ℕ) → (new model divisor).board ≡ fresh model divisor
unfolding new
new-board model divisor = simp (of-pick (λ (o : Outcome). o.board), pick_same)

-- all operations of a sound trace, from a board on: one text put, and the board after them
pub told-sound : (form : Form) (trace : List ℕ) (number : ℕ) → soundness (operations_from trace 0 number) ≡ sound tt
    → (start : Board) (place : ℕ) (bytes : List ℕ) (r : Told) (after : List ℕ) → Tells form 0 (number - 0) (found_from trace 0 (number - 0)) start place bytes r after
    → place + room_of form * number ≤ length bytes → Puts (told_from form start 0 (to_tell trace 0 number)) (room_of form * number) bytes place r.place after
told-sound form trace number all start place bytes r after t room =
    let every : number - 0 ≡ number = omega arith in
    let found : Tells form 0 number (found_from trace 0 number) start place bytes r after = subst (λ (n : ℕ). Tells form 0 n (found_from trace 0 n) start place bytes r after) every t in
    told-whole form 0 number (to_tell trace 0 number) start place bytes r after (subst (λ (os : List Operation). Tells form 0 number os start place bytes r after) (found-are trace 0 number all) found) room

pub prints : {text bytes bytes₁ : List ℕ} {place₁ : ℕ} → Wrote text bytes 0 place₁ bytes₁ → length text ≤ length bytes → Prints text bytes place₁ bytes₁
prints {text} {bytes} w fits =
    let all = w.so (omega arith) ∙ put-fits text bytes 0 (omega arith) in
    (ap (λ p. p.place) all ∙ zero-add (length text), ap (λ p. p.bytes) all ∙ simp (zero-add), fits)

-- the printed bytes are some of the lent ones, in the words that a caller's `&out[..n]` asks for
pub prints-counts : (text before : List ℕ) (number : ℕ) (after : List ℕ) → Prints text before number after → IsPrefixLen number after
prints-counts text before number after p =
    let long : number ≤ length after = rw (p.0, p.1) (simp length-append (omega arith)) in
    (long, sym (length-take-le number after long))

-- no byte past the first 26,373 counts, so what the program reads at most is enough
pub first-bytes-print : (bytes : List ℕ) (n : ℕ) → longest_trace + 1 ≤ n → printed (take n bytes) ≡ printed bytes
unfolding printed
first-bytes-print bytes n h = ap printed_judgement (first-bytes-decide bytes n h)
