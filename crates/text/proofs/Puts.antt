-- Texts put one behind the other are one text put, and a put keeps the length of the bytes. Assumes nothing.
use Prim.Native.Nat.{ℕ, ◌+◌, ◌-◌, ◌≤◌}
use mathlib.Core.Bool.{Bool, true, false, cond}
use mathlib.Core.List.{List, ◌++◌, append_assoc, append-nil}
use mathlib.Core.Path.{◌≡◌, refl, ap, sym, ◌∙◌}
use native.Mathlib.Nat.{add_assoc}
use native.Mathlib.Omega.{arith}
use lib.Dec.{ltb}
use lib.ListN.{length, take, drop, length-append, length-drop}
use lib.Seq.{length-take-le, take_all, take-length, take_at, drop-append-add, drop-drop, drop-length}
use borrow.Author.Tests.{le-ltb, ltb-false}
use borrow.Rule.Slice.PartMut.{put_mid, Post-is}
use Rattle.text.specs.Put.{over, put, answered}

length_over : (text bytes : List ℕ) (place : ℕ) → place + length text ≤ length bytes → length (over text bytes place) ≡ length bytes
length_over text bytes place h = simp (length-append, length-drop, length-take-le place bytes (omega arith)) (omega arith)

module _ (text bytes : List ℕ) (place : ℕ) (room : place + length text ≤ length bytes) where
  pub put-fits : put text bytes place ≡ answered (place + length text) (over text bytes place)
  unfolding put
  put-fits = simp (le-ltb (length bytes) (place + length text) room)

  -- what `copy_from_slice` leaves in the tail, seen from the whole
  pub put_back : (tail : List ℕ) → tail ≡ take (length text) text ++ drop (length text) (take (length bytes - place) (drop place bytes))
      → answered (place + length text) (put_mid place (length bytes - place) bytes tail) ≡ put text bytes place
  put_back tail e =
      let whole : take (length bytes - place) (drop place bytes) ≡ drop place bytes = take_all (length bytes - place) (drop place bytes) (simp length-drop (omega arith)) in
      simp (put-fits, Post-is place (length bytes) bytes (omega arith), drop-length, append-nil) (simp (e, whole, take-length, drop-drop, append_assoc))

  over-over : (more : List ℕ) → over more (over text bytes place) (place + length text) ≡ over (text ++ more) bytes place
  over-over more =
      let front : length (take place bytes ++ text) ≡ place + length text = simp (length-append, length-take-le place bytes (omega arith)) in
      let before : take (place + length text) (over text bytes place) ≡ take place bytes ++ text = take_at (take place bytes ++ text) (drop (place + length text) bytes) (place + length text) front in
      let behind : drop (place + length text + length more) (over text bytes place) ≡ drop (place + length text + length more) bytes =
      ap (λ k. drop (k + length more) (over text bytes place)) (sym front)
      ∙ drop-append-add (take place bytes ++ text) (drop (place + length text) bytes) (length more)
      ∙ drop-drop (length more) (place + length text) bytes in
      rw (before, behind) (simp (length-append, add_assoc, append_assoc))

length-by : (text bytes : List ℕ) (place : ℕ) (over-end : Bool) → ltb (length bytes) (place + length text) ≡ over-end
    → length (cond over-end (answered place bytes) (answered (place + length text) (over text bytes place))).bytes ≡ length bytes
length-by text bytes place true e = refl
length-by text bytes place false e = length_over text bytes place (ltb-false _ _ e)

-- also where the text does not fit
pub put-length : (text bytes : List ℕ) (place r : ℕ) (after : List ℕ) → answered r after ≡ put text bytes place → length after ≡ length bytes
unfolding put
put-length text bytes place r after e =
    ap (λ p. length p.bytes) e ∙ length-by text bytes place (ltb (length bytes) (place + length text)) refl

-- two puts, the second where the first ended
pub put_then : (text more bytes bytes₁ bytes₂ : List ℕ) (place place₁ place₂ : ℕ) → place + length (text ++ more) ≤ length bytes
    → answered place₁ bytes₁ ≡ put text bytes place
    → answered place₂ bytes₂ ≡ put more bytes₁ place₁
    → answered place₂ bytes₂ ≡ put (text ++ more) bytes place
put_then text more bytes bytes₁ bytes₂ place place₁ place₂ room first second =
    let sum : length (text ++ more) ≡ length text + length more = length-append text more in
    let fits : place + length text ≤ length bytes = omega arith in
    let one : answered place₁ bytes₁ ≡ answered (place + length text) (over text bytes place) = first ∙ put-fits text bytes place fits in
    let at : place₁ ≡ place + length text = ap (λ p. p.place) one in
    let is : bytes₁ ≡ over text bytes place = ap (λ p. p.bytes) one in
    let enough : place + length text + length more ≤ length (over text bytes place) = simp (length_over text bytes place fits) (omega arith) in
    second
    ∙ simp (at, is) (put-fits more (over text bytes place) (place + length text) enough)
    ∙ ap (answered (place + length text + length more)) (over-over text bytes place fits more)
    ∙ simp (put-fits (text ++ more) bytes place room, sum, add_assoc)

-- what a text put leaves, for a chain of puts: that there is room need only be shown for the whole text
pub record Wrote (text bytes : List ℕ) (place place₁ : ℕ) (bytes₁ : List ℕ) : Type 0 where
  pub so : place + length text ≤ length bytes → answered place₁ bytes₁ ≡ put text bytes place

pub wrote : (text bytes : List ℕ) (place place₁ : ℕ) (bytes₁ : List ℕ) → answered place₁ bytes₁ ≡ put text bytes place
    → Wrote text bytes place place₁ bytes₁
wrote text bytes place place₁ bytes₁ e = record { so = λ _. e }

pub and_then : {text bytes bytes₁ : List ℕ} {place place₁ : ℕ} → Wrote text bytes place place₁ bytes₁
    → (more : List ℕ) (place₂ : ℕ) (bytes₂ : List ℕ) → answered place₂ bytes₂ ≡ put more bytes₁ place₁
    → Wrote (text ++ more) bytes place place₂ bytes₂
and_then {text} {bytes} {bytes₁} {place} {place₁} first more place₂ bytes₂ second =
    record {
      so =
          λ room.
          put_then text more bytes bytes₁ bytes₂ place place₁ place₂ room (first.so (omega (arith, length-append text more))) second;
    }

pub wrote-place : {text bytes bytes₁ : List ℕ} {place place₁ : ℕ} → Wrote text bytes place place₁ bytes₁
    → place + length text ≤ length bytes → place₁ ≡ place + length text
wrote-place {text} {bytes} {bytes₁} {place} w room = ap (λ p. p.place) (w.so room ∙ put-fits text bytes place room)
