-- A text put at the front of bytes that are as many as its own leaves just the text. Assumes nothing.
use Prim.Native.Nat.{ℕ}
use mathlib.Core.List.{List, append-nil}
use mathlib.Core.Path.{◌≡◌, ap, ◌∙◌}
use native.Mathlib.Nat.{zero-add}
use native.Mathlib.Omega.{arith}
use lib.ListN.{length}
use lib.Seq.{drop-length}
use Rattle.text.proofs.Puts.{Wrote, put-fits}

pub filled : {text bytes bytes₁ : List ℕ} {place : ℕ} → Wrote text bytes 0 place bytes₁ → length text ≡ length bytes → bytes₁ ≡ text
filled {text} {bytes} w same =
    ap (λ p. p.bytes) (w.so (omega arith) ∙ put-fits text bytes 0 (omega arith)) ∙ simp (zero-add, same, drop-length) (append-nil text)
