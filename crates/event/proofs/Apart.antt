-- An answer is known by document 01's number or place for it. Assumes nothing.
use Prim.Native.Nat.{ℕ}
use mathlib.Core.Path.{◌≡◌, refl}
use Rattle.std.specs.Prelude.{Result}
use Rattle.refusal.specs.declared.Refusal.{Refusal}
use Rattle.refusal.proofs.Replies.{replies-apart}
use Rattle.event.specs.Event.{placed_reply}

pub placed-apart : (p q : Result ℕ Refusal) → placed_reply p ≡ placed_reply q → p ≡ q
placed-apart = replies-apart (λ place. place) (λ place. place) (λ place. refl)
