-- The runner's loop: what the operations that are left come to, in every form, and how one of them goes on from there. Assumes nothing.
use Prim.Native.Nat.{ℕ, zero, suc, ◌+◌, ◌-◌, ◌*◌, ◌<◌, ◌≤◌}
use mathlib.Core.List.{List, ◌∷◌, ◌++◌}
use mathlib.Core.Path.{◌≡◌, refl, sym, ap, subst, ◌∙◌}
use native.Mathlib.Nat.{mul-suc}
use native.Mathlib.Numerals.{add-one}
use native.Mathlib.Omega.{arith}
use lib.ListN.{length, length-append}
use Rattle.board.specs.declared.Board.{Board}
use Rattle.board.specs.Outcome.{Outcome}
use Rattle.text.specs.Put.{put}
use Rattle.text.proofs.Puts.{put-length}
use Rattle.trace.specs.declared.operation.Operation.{Operation}
use Rattle.trace.specs.Operation.{operation_in}
use Rattle.recorded.specs.Made.{make}
use Rattle.runner.specs.declared.Form.{Form}
use Rattle.runner.specs.Printed.{room_of, said_of, told_from}
use Rattle.runner.specs.Inner.{found_from, Puts, Telling, telling, tell_one, tell_all}

-- the operations of the trace from an index up to a last one, of which it is the first, come to this
abbrev Left : Form → List ℕ → ℕ → ℕ → Telling → Telling
Left form trace k last t = tell_all form k (found_from trace k (last - k)) t

-- .. and what is said of them is not longer than this
abbrev LeftShort : Form → List ℕ → ℕ → ℕ → Board → Type 0
LeftShort form trace k last b = length (told_from form b k (found_from trace k (last - k))) ≤ room_of form * (last - k)

-- the board and the lent bytes at an index: what is left decides what all comes to
pub record Running (form : Form) (trace : List ℕ) (first last : ℕ) (start : Board) (place : ℕ) (bytes : List ℕ) (k : ℕ) (b : Board) (at : ℕ) (out : List ℕ) : Type 0 where
  pub comes : Left form trace k last (telling b at out) ≡ Left form trace first last (telling start place bytes)
  pub short : LeftShort form trace k last b → LeftShort form trace first last start
  pub same_length : length out ≡ length bytes

pub begun : (form : Form) (trace : List ℕ) (first last : ℕ) (start : Board) (place : ℕ) (bytes : List ℕ)
    → Running form trace first last start place bytes first start place bytes
begun form trace first last start place bytes = record { comes = refl; short = λ h. h; same_length = refl }

left_one : (k last : ℕ) → k < last → last - k ≡ suc (last - suc k)
left_one k last h = omega arith

one-more : (room left a b : ℕ) → a ≤ room → b ≤ room * left → a + b ≤ room * suc left
one-more room left a b h k = rw (mul-suc room left) (omega (arith, h, k))

module _ (form : Form) (trace : List ℕ) (first last : ℕ) (start : Board) (place : ℕ) (bytes : List ℕ) (k : ℕ) (b : Board) (at : ℕ) (out : List ℕ) (r : Running form trace first last start place bytes k b at out) where
  -- one operation more: its outcome, and what is said of it put behind the rest
  pub goes-on : k < last → (outcome : Outcome) → make b (operation_in trace k) ≡ outcome
      → (at₁ : ℕ) (out₁ : List ℕ) → Puts (said_of form k outcome) (room_of form) out at at₁ out₁
      → Running form trace first last start place bytes (k + 1) outcome.board at₁ out₁
  goes-on h outcome made at₁ out₁ said =
      let o = operation_in trace k in
      let left = last - suc k in
      let rest = found_from trace (suc k) left in
      let later : found_from trace k (last - k) ≡ o ∷ rest = rw (left_one k last h) refl in
      let one : tell_one form k (telling b at out) o ≡ telling outcome.board at₁ out₁ =
      (λ i. record { board = (made i).board; text = put (said_of form k (made i)) out at }) ∙ (λ i. record { board = outcome.board; text = sym said.told i }) in
      let text : told_from form b k (o ∷ rest) ≡ said_of form k outcome ++ told_from form outcome.board (suc k) rest = ap (λ (p : Outcome). said_of form k p ++ told_from form p.board (suc k) rest) made in
      rw (add-one k)
      record {
        comes = ap (tell_all form (suc k) rest) (sym one) ∙ ap (λ (os : List Operation). tell_all form k os (telling b at out)) (sym later) ∙ r.comes;
        short =
            λ few.
            r.short
            (subst (λ (os : List Operation). length (told_from form b k os) ≤ room_of form * (last - k)) (sym later)
            (rw text (rw (left_one k last h) (simp length-append (one-more (room_of form) left _ _ said.short few)))));
        same_length = put-length (said_of form k outcome) out at at₁ out₁ said.told ∙ r.same_length;
      }

  -- nothing is left
  pub ended : last ≤ k
      → (telling b at out ≡ tell_all form first (found_from trace first (last - first)) (telling start place bytes)) × LeftShort form trace first last start
  ended h =
      let none : last - k ≡ zero = omega arith in (
        subst (λ (left : ℕ). tell_all form k (found_from trace k left) (telling b at out) ≡ Left form trace first last (telling start place bytes)) none r.comes,
        r.short (rw none (omega arith)),
      )
