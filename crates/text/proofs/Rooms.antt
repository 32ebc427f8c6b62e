-- Pushes one behind the other are one push of all. Assumes nothing.
use Rattle.std.proofs.Common.{ℕ, zero, suc, ◌+◌, ◌-◌, ◌≤◌, min, List, [], ◌∷◌, ◌++◌, ◌≡◌, refl, sym, ap, ◌∙◌, length, take, drop, replicate, arith}
use Rattle.std.proofs.lemmas.List.{take_all, take_min, length-take-le, length-append, drop-replicate}
use Rattle.std.proofs.Math.Seq.{take-append-add, drop-append_seam}
use Rattle.std.proofs.Math.Nat.{min-le_left, min-le_right}
use mathlib.Core.List.{append_assoc}
use lib.Seq.{take_at, drop-drop}
use Rattle.text.specs.Number.{decimal}
use Rattle.text.specs.Put.{over, put, answered}
use Rattle.text.proofs.Puts.{put-fits, put-length}

-- what is cut off stays cut off, whatever is pushed
pub cut_cut : (room : ℕ) (text more : List ℕ) → take room (take room text ++ more) ≡ take room (text ++ more)
cut_cut zero text more = refl
cut_cut (suc room) [] more = refl
cut_cut (suc room) (x ∷ text) more = ap (λ xs. x ∷ xs) (cut_cut room text more)

-- what a text pushed leaves, for a chain of pushes
pub record Pushed (room : ℕ) (before text after : List ℕ) : Type 0 where
  pub so : after ≡ take room (before ++ text)

pub first : {room : ℕ} {before : List ℕ} (text after : List ℕ) → after ≡ take room (before ++ text) → Pushed room before text after
first text after e = record { so = e }

pub and_pushed : {room : ℕ} {before text middle : List ℕ} → Pushed room before text middle → (more after : List ℕ) → after ≡ take room (middle ++ more)
    → Pushed room before (text ++ more) after
and_pushed {room} {before} {text} p more after e =
    record { so = e ∙ ap (λ (t : List ℕ). take room (t ++ more)) p.so ∙ cut_cut room (before ++ text) more ∙ ap (take room) (append_assoc before text more) }

-- a number that was widened first
pub first_number : {room : ℕ} {before : List ℕ} (n wide : ℕ) (after : List ℕ) → wide ≡ n → after ≡ take room (before ++ decimal wide) → Pushed room before (decimal n) after
first_number {room} {before} n wide after same e = record { so = e ∙ ap (λ (k : ℕ). take room (before ++ decimal k)) same }

pub and_number : {room : ℕ} {before text middle : List ℕ} → Pushed room before text middle → (n wide : ℕ) (after : List ℕ) → wide ≡ n
    → after ≡ take room (middle ++ decimal wide) → Pushed room before (text ++ decimal n) after
and_number {room} {before} {text} {middle} p n wide after same e =
    and_pushed p (decimal n) after (e ∙ ap (λ (k : ℕ). take room (middle ++ decimal k)) same)

-- of a text that fits, pushed into an empty room, nothing is cut off
pub said : {room : ℕ} {empty text after : List ℕ} → Pushed room empty text after → empty ≡ [] → length text ≤ room → after ≡ text
said {room} {empty} {text} p none fits = p.so ∙ ap (λ (l : List ℕ). take room (l ++ text)) none ∙ take_all room text fits

-- a text put behind another one, as much of it as fits
module _ (room len size place₁ : ℕ) (bytes text bytes₁ : List ℕ) (within : len ≤ room) (full : length bytes ≡ room)
    (zeros : drop len bytes ≡ replicate (room - len) 0) (is : size ≡ min (room - len) (length text))
    (put_is : answered place₁ bytes₁ ≡ put (take size text) bytes len) where
  left : size ≤ room - len
  left = rw is (min-le_left (room - len) (length text))

  there : size ≤ length text
  there = rw is (min-le_right (room - len) (length text))

  long : length (take size text) ≡ size
  long = length-take-le size text there

  behind : len + length (take size text) ≤ length bytes
  behind = omega (arith, left, long, full, within)

  all : answered place₁ bytes₁ ≡ answered (len + length (take size text)) (over (take size text) bytes len)
  all = put_is ∙ put-fits (take size text) bytes len behind

  front : length (take len bytes ++ take size text) ≡ len + length (take size text)
  front = length-append (take len bytes) (take size text) ∙ ap (λ (k : ℕ). k + length (take size text)) (length-take-le len bytes (omega (arith, full, within)))

  rest : drop (len + length (take size text)) (over (take size text) bytes len) ≡ replicate (room - (len + length (take size text))) 0
  rest =
      ap (λ (k : ℕ). drop k (over (take size text) bytes len)) (sym front)
      ∙ drop-append_seam (take len bytes ++ take size text) (drop (len + length (take size text)) bytes)
      ∙ sym (drop-drop (length (take size text)) len bytes)
      ∙ ap (drop (length (take size text))) zeros
      ∙ drop-replicate (length (take size text)) (room - len) 0
      ∙ ap (λ (k : ℕ). replicate k 0) (omega arith)

  pub kept : (place₁ ≤ room) × (length bytes₁ ≡ room) × (drop place₁ bytes₁ ≡ replicate (room - place₁) 0)
  kept =
      let at : place₁ ≡ len + length (take size text) = ap (λ p. p.place) all in
      let made : bytes₁ ≡ over (take size text) bytes len = ap (λ p. p.bytes) all in
      (omega (arith, at, long, left, within), put-length (take size text) bytes len place₁ bytes₁ put_is ∙ full, rw (at, made) rest)

  cut : take room (take len bytes ++ text) ≡ take len bytes ++ take size text
  cut =
      let said : length (take len bytes) ≡ len = length-take-le len bytes (omega (arith, full, within)) in
      let sum : room ≡ length (take len bytes) + (room - len) = omega (arith, said, within) in
      ap (λ (k : ℕ). take k (take len bytes ++ text)) sum
      ∙ take-append-add (take len bytes) text (room - len)
      ∙ ap (λ (t : List ℕ). take len bytes ++ t) (sym (ap (λ (k : ℕ). take k text) is ∙ take_min (room - len) text))

  pub put_text : take place₁ bytes₁ ≡ take room (take len bytes ++ text)
  put_text =
      let at : place₁ ≡ len + length (take size text) = ap (λ p. p.place) all in
      let made : bytes₁ ≡ over (take size text) bytes len = ap (λ p. p.bytes) all in
      rw (at, made)
      (take_at (take len bytes ++ take size text) (drop (len + length (take size text)) bytes) (len + length (take size text)) front ∙ sym cut)

-- a text that fits, put whole behind another one
module _ (room len place₁ : ℕ) (bytes text bytes₁ : List ℕ) (within : len ≤ room) (full : length bytes ≡ room)
    (zeros : drop len bytes ≡ replicate (room - len) 0) (fits : length text ≤ room - len)
    (put_is : answered place₁ bytes₁ ≡ put text bytes len) where
  none_cut : length text ≡ min (room - len) (length text)
  none_cut = omega arith

  as_part : answered place₁ bytes₁ ≡ put (take (length text) text) bytes len
  as_part = rw (take_all (length text) text (omega arith)) put_is

  pub kept_whole : (place₁ ≤ room) × (length bytes₁ ≡ room) × (drop place₁ bytes₁ ≡ replicate (room - place₁) 0)
  kept_whole = kept room len (length text) place₁ bytes text bytes₁ within full zeros none_cut as_part

  pub put_whole : take place₁ bytes₁ ≡ take room (take len bytes ++ text)
  put_whole = put_text room len (length text) place₁ bytes text bytes₁ within full zeros none_cut as_part
