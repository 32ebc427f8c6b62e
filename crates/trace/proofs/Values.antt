-- A judgement is a refusal or sound, not both; and what holds of the value that is judged sound, if one is. Assumes nothing.
use mathlib.Core.Path.{◌≡◌, refl, sym, subst}
use Rattle.trace.specs.Judgement.{Judgement, Faulted, refused_by, sound, fault_at, and_then}

abbrev Refuses : {A : Type 0} → Judgement A → Type 0
Refuses (refused_by f) = Unit
Refuses (sound value) = ⊥

pub not-refused : {A : Type 0} (value : A) (f : Faulted) → sound value ≡ refused_by f → ⊥
not-refused value f e = subst Refuses (sym e) tt

-- a refusal, whatever would have been read
abbrev pub again : {A B : Type 0} → Judgement A → Judgement B
again (refused_by f) = refused_by f
again (sound value) = refused_by (fault_at 0 0)

abbrev pub OfSound : {A : Type 0} → (A → Type 0) → Judgement A → Type 0
OfSound P (refused_by f) = Unit
OfSound P (sound value) = P value

pub itself : {A : Type 0} (j : Judgement A) → OfSound (λ (a : A). j ≡ sound a) j
itself (refused_by f) = tt
itself (sound value) = refl

-- .. of which nothing need be known
pub anyhow : {A : Type 0} (j : Judgement A) → OfSound (λ (a : A). Unit) j
anyhow (refused_by f) = tt
anyhow (sound value) = tt

pub through : {A B : Type 0} (P : A → Type 0) (Q : B → Type 0) (j : Judgement A) (after : A → Judgement B) → OfSound P j
    → ((a : A) → P a → OfSound Q (after a)) → OfSound Q (and_then j after)
through P Q (refused_by f) after h step = tt
through P Q (sound value) after h step = step value h

-- two continuations that do the same on such a value
pub after_same : {A B : Type 0} (P : A → Type 0) (j : Judgement A) (f g : A → Judgement B) → OfSound P j → ((a : A) → P a → f a ≡ g a)
    → and_then j f ≡ and_then j g
after_same P (refused_by fault) f g h same = refl
after_same P (sound value) f g h same = same value h
