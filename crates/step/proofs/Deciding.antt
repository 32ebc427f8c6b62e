-- A reply that is decided by tests, one after another, is a refusal exactly when the first test that holds is that refusal's. Assumes nothing.
use Prim.Native.Nat.{ℕ}
use mathlib.Core.Path.{◌≡◌, refl, sym, ap}
use mathlib.Core.Bool.{Bool, true, false, cond, false≢true}
use mathlib.Core.List.{List, [], ◌∷◌}
use mathlib.Core.Logic.{inl, inr, ⊎_elim, ◌↔◌}
use Rattle.refusal.specs.Reply.{Reply, refused, accepted, number_in}
use Rattle.refusal.proofs.Apart.{not-refused}
use Rattle.step.specs.Refusals.{Row, FirstOf}

-- nothing is left to refuse
pub accepts : {A : Type 0} (value : A) (k : ℕ) → (accepted value ≡ refused k) ↔ FirstOf [] k
accepts value k = (not-refused value k, λ none. absurd none)

-- the first refusal's condition holds ..
pub holding : {A : Type 0} (r : Row) (rest : List Row) (k : ℕ) → r.condition → (◌≡◌ {A = Reply A} (refused r.number) (refused k)) ↔ FirstOf (r ∷ rest) k
holding r rest k holds =
    (λ e. inl (sym (ap number_in e), holds), ⊎_elim (λ first. ap refused (sym first.0)) (λ later. absurd (later.0 holds)))

-- .. or it does not, and the others decide
pub failing : {A : Type 0} (r : Row) (rest : List Row) (reply : Reply A) (k : ℕ) → (r.condition → ⊥) → (reply ≡ refused k) ↔ FirstOf rest k
    → (reply ≡ refused k) ↔ FirstOf (r ∷ rest) k
failing r rest reply k fails others = (λ e. inr (fails, others.0 e), ⊎_elim (λ first. absurd (fails first.1)) (λ later. others.1 later.1))

-- a test that holds exactly when the condition does
pub tested : {A : Type 0} (test : Bool) (r : Row) (rest : List Row) (reply : Reply A) (k : ℕ) → (test ≡ true) ↔ r.condition
    → (reply ≡ refused k) ↔ FirstOf rest k → (cond test (refused r.number) reply ≡ refused k) ↔ FirstOf (r ∷ rest) k
tested true r rest reply k means others = holding r rest k (means.0 refl)
tested false r rest reply k means others = failing r rest reply k (λ holds. false≢true (means.1 holds)) others
