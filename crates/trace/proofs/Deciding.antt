-- A judgement decided by tests, one after another, is a refusal exactly when the first row that holds is that refusal's. Assumes nothing.
use Prim.Native.Nat.{ℕ, ◌≤◌}
use mathlib.Core.Path.{◌≡◌, refl, sym, ap}
use mathlib.Core.Bool.{Bool, true, false, not, cond, ◌||◌, false≢true}
use mathlib.Core.List.{List, [], ◌∷◌}
use mathlib.Core.Logic.{◌⊎◌, inl, inr, ⊎_elim, ◌↔◌}
use lib.Dec.{ltb, eqb}
use borrow.Author.Tests.{ltb-false, le-ltb, eqb-true, eq-eqb, not-false}
use Rattle.trace.specs.Judgement.{Judgement, Faulted, refused_by, sound, fault_at, and_then}
use Rattle.trace.specs.Refusals.{Row, FirstAt}
use Rattle.trace.proofs.Values.{not-refused, again}

pub record Decided {A : Type 0} (j : Judgement A) (rows : List Row) (f : Faulted) : Type 0 where
  pub exactly : (j ≡ refused_by f) ↔ FirstAt rows f

-- nothing is left to refuse
pub accepts : {A : Type 0} (value : A) (f : Faulted) → Decided (sound value) [] f
accepts value f = record { exactly = (not-refused value f, λ none. absurd none) }

abbrev fault_by : {A : Type 0} → Judgement A → Faulted
fault_by (refused_by f) = f
fault_by (sound value) = fault_at 0 0

-- a test that holds exactly when the row's condition does; where it fails, the rows after it decide
pub tested : {A : Type 0} (test : Bool) (r : Row) (rest : List Row) (after : Judgement A) (f : Faulted) → (test ≡ true) ↔ r.condition
    → (test ≡ false → Decided after rest f) → Decided (cond test (refused_by r.fault) after) (r ∷ rest) f
tested true r rest after f means others =
    let holds = means.0 refl in
    record {
      exactly = (λ e. inl (sym (ap fault_by e), holds), ⊎_elim (λ first. ap refused_by (sym first.0)) (λ later. absurd (later.0 holds)));
    }
tested false r rest after f means others =
    let fails : r.condition → ⊥ = λ holds. false≢true (means.1 holds) in
    record { exactly = (λ e. inr (fails, (others refl).exactly.0 e), ⊎_elim (λ first. absurd (fails first.1)) (λ later. (others refl).exactly.1 later.1)) }

-- what is made of the value changes no refusal
pub made_of : {A B : Type 0} (j : Judgement A) (g : A → B) (rows : List Row) (f : Faulted) → Decided j rows f
    → Decided (and_then j (λ value. sound (g value))) rows f
made_of (refused_by other) g rows f d = record { exactly = (λ e. d.exactly.0 (ap again e), λ first. ap again (d.exactly.1 first)) }
made_of (sound value) g rows f d =
    record {
      exactly = (λ e. absurd (not-refused (g value) f e), λ first. absurd (not-refused value f (d.exactly.1 first)));
    }

-- what the tests mean
pub one_of : {A B : Type 0} (a b : Bool) → (a ≡ true) ↔ A → (b ≡ true) ↔ B → ((a || b) ≡ true) ↔ (A ⊎ B)
one_of true b first second = (λ e. inl (first.0 refl), λ one. refl)
one_of false b first second = (λ e. inr (second.0 e), ⊎_elim (λ a. absurd (false≢true (first.1 a))) second.1)

-- what it means that a rule is kept ..
pub at_most : (a b : ℕ) → (ltb a b ≡ false) ↔ (b ≤ a)
at_most a b = (ltb-false a b, le-ltb a b)

pub is : (a b : ℕ) → (not (eqb a b) ≡ false) ↔ (a ≡ b)
is a b = (λ e. eqb-true a b (not-false (eqb a b) e), λ e. ap not (eq-eqb a b e))

-- (there is none)
pub free : (false ≡ false) ↔ Unit {0}
free = (λ e. tt, λ u. refl)

pub neither : {A B : Type 0} (a b : Bool) → (a ≡ false) ↔ A → (b ≡ false) ↔ B → ((a || b) ≡ false) ↔ (A × B)
neither true b first second = (λ e. absurd (false≢true (sym e)), λ both. first.1 both.0)
neither false b first second = (λ e. (first.0 refl, second.0 e), λ both. second.1 both.1)

pub guarded : {A X Y : Type 0} (test x y : Bool) → (test ≡ true) ↔ A → (x ≡ false) ↔ X → (y ≡ false) ↔ Y
    → (cond test x y ≡ false) ↔ ((A → X) × ((A → ⊥) → Y))
guarded true x y means first second =
    (λ e. (λ a. first.0 e, λ fails. absurd (fails (means.0 refl))), λ both. first.1 (both.0 (means.0 refl)))
guarded false x y means first second =
    (λ e. (λ a. absurd (false≢true (means.1 a)), λ fails. second.0 e), λ both. second.1 (both.1 (λ a. false≢true (means.1 a))))

-- .. and that it is broken
pub breaks : {Kept : Type 0} (test : Bool) → (test ≡ false) ↔ Kept → (test ≡ true) ↔ (Kept → ⊥)
breaks true means = (λ e kept. false≢true (sym (means.1 kept)), λ broken. refl)
breaks false means = (λ e. absurd (false≢true e), λ broken. absurd (broken (means.0 refl)))
