-- What the runner's loop comes to on the operations of a sound trace: the board after them, and one text put into the lent bytes. Assumes nothing.
use Prim.Native.Nat.{ℕ, zero, suc, ◌+◌, ◌*◌, ◌≤◌}
use mathlib.Core.Bool.{Bool, true, false, cond}
use mathlib.Core.List.{List, [], ◌∷◌, ◌++◌, append-nil}
use mathlib.Core.Path.{◌≡◌, refl, sym, ap, subst, ◌∙◌}
use native.Mathlib.Nat.{add-zero}
use native.Mathlib.Omega.{arith}
use lib.Dec.{ltb}
use lib.ListN.{length, length-append, take-append-drop}
use Rattle.board.specs.declared.Board.{Board}
use Rattle.text.specs.Put.{Put, over, put, answered}
use Rattle.text.proofs.Puts.{put-fits, put-length, put_then}
use Rattle.trace.specs.declared.operation.Operation.{Operation}
use Rattle.trace.specs.Judgement.{Judgement, refused_by, sound}
use Rattle.trace.specs.Operation.{operation_at}
use Rattle.trace.specs.Trace.{before, operations_from}
use Rattle.trace.specs.Inner.{soundness, operations_of}
use Rattle.trace.proofs.Found.{in-sound}
use Rattle.trace.proofs.Turns.{Counts, as_many}
use Rattle.trace.proofs.Values.{not-refused, OfSound, itself, through}
use Rattle.recorded.specs.Made.{make, make_all}
use Rattle.runner.specs.declared.Form.{Form}
use Rattle.runner.specs.declared.Told.{Told}
use Rattle.runner.specs.Printed.{room_of, said_of, told_from}
use Rattle.runner.specs.Inner.{to_tell, found_from, Puts, Telling, telling, tell_one, tell_all, Tells}

within : (place all have a : ℕ) → place + all ≤ have → a ≤ all → place + a ≤ have
within place all have a h k = omega (arith, h, k)

nothing-by : (bytes : List ℕ) (place : ℕ) (past : Bool) → cond past (answered place bytes) (answered (place + 0) (over [] bytes place)) ≡ answered place bytes
nothing-by bytes place true = refl
nothing-by bytes place false = simp (add-zero, append-nil, take-append-drop)

-- nothing put is nothing changed
pub put-nothing : (bytes : List ℕ) (place : ℕ) → put [] bytes place ≡ answered place bytes
unfolding put
put-nothing bytes place = nothing-by bytes place (ltb (length bytes) (place + 0))

board-after : (form : Form) (index : ℕ) (os : List Operation) (t : Telling) → (tell_all form index os t).board ≡ make_all t.board os
board-after form index [] t = refl
board-after form index (o ∷ os) t = board-after form (suc index) os (tell_one form index t o)

text-after : (form : Form) (index : ℕ) (os : List Operation) (b : Board) (place : ℕ) (bytes : List ℕ) → place + length (told_from form b index os) ≤ length bytes
    → (tell_all form index os (telling b place bytes)).text ≡ put (told_from form b index os) bytes place
text-after form index [] b place bytes room = sym (put-nothing bytes place)
text-after form index (o ∷ os) b place bytes room =
    let text = said_of form index (make b o) in
    let rest = told_from form (make b o).board (suc index) os in
    let first = put text bytes place in
    let sum : length (text ++ rest) ≡ length text + length rest = length-append text rest in
    let at : first.place ≡ place + length text = ap (λ (p : Put). p.place) (put-fits text bytes place (omega arith)) in
    let long : length first.bytes ≡ length bytes = put-length text bytes place first.place first.bytes refl in
    let fits : first.place + length rest ≤ length first.bytes = omega arith in
    put_then text rest bytes first.bytes _ place first.place _ room refl (text-after form (suc index) os (make b o).board first.place first.bytes fits)

-- the operations of a sound trace are those that are found
pub all_found : (trace : List ℕ) (index n : ℕ) → OfSound (λ (os : List Operation). found_from trace index n ≡ os) (operations_from trace index n)
all_found trace index zero = refl
all_found trace index (suc n) =
    through (λ (o : Operation). operation_at trace index ≡ sound o) _ (operation_at trace index) (before (operations_from trace (suc index) n)) (itself (operation_at trace index))
    (λ o first.
    through (λ (os : List Operation). found_from trace (suc index) n ≡ os) _ (operations_from trace (suc index) n) (λ os. sound (o ∷ os)) (all_found trace (suc index) n)
    (λ os rest. λ i. in-sound trace index o first i ∷ rest i))

sound-is : (j : Judgement (List Operation)) → soundness j ≡ sound tt → j ≡ sound (operations_of j)
sound-is (refused_by f) e = absurd (not-refused tt f (sym e))
sound-is (sound os) e = refl

-- the operations of a sound trace: how many there are, and where they are found
module _ (trace : List ℕ) (first number : ℕ) (all : soundness (operations_from trace first number) ≡ sound tt) where
  pub are : operations_from trace first number ≡ sound (to_tell trace first number)
  are = sound-is (operations_from trace first number) all

  pub as-many-as : length (to_tell trace first number) ≡ number
  as-many-as = subst (Counts number) are (as_many trace first number)

  pub found-are : found_from trace first number ≡ to_tell trace first number
  found-are = subst (OfSound (λ (os : List Operation). found_from trace first number ≡ os)) are (all_found trace first number)

-- the board that the loop answers
pub told-board : {form : Form} {first number : ℕ} {os : List Operation} {start : Board} {place : ℕ} {bytes : List ℕ} {r : Told} {after : List ℕ}
    → Tells form first number os start place bytes r after → r.board ≡ make_all start os
told-board {form} {first} {number} {os} {start} {place} {bytes} t = ap (λ (x : Telling). x.board) t.tells ∙ board-after form first os (telling start place bytes)

-- what the loop says, where there is room for all that can be said
pub told-whole : (form : Form) (first number : ℕ) (os : List Operation) (start : Board) (place : ℕ) (bytes : List ℕ) (r : Told) (after : List ℕ)
    → Tells form first number os start place bytes r after → place + room_of form * number ≤ length bytes
    → Puts (told_from form start first os) (room_of form * number) bytes place r.place after
told-whole form first number os start place bytes r after t room =
    record {
      told = ap (λ (x : Telling). x.text) t.tells ∙ text-after form first os start place bytes (within place (room_of form * number) (length bytes) _ room t.shortly);
      short = t.shortly;
    }
