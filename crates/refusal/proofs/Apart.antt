-- What is found again from its image is known by it; a refusal is no acceptance. Assumes nothing.
use Prim.Native.Nat.{ℕ}
use mathlib.Core.Path.{◌≡◌, sym, ap, subst, ◌∙◌}
use Rattle.refusal.specs.Reply.{Reply, refused, accepted}

pub apart_by : {A B : Type 0} (f : A → B) (g : B → A) → ((a : A) → g (f a) ≡ a) → (x y : A) → f x ≡ f y → x ≡ y
apart_by f g back x y e = sym (back x) ∙ ap g e ∙ back y

abbrev Refuses : {A : Type 0} → Reply A → Type 0
Refuses (refused number) = Unit
Refuses (accepted value) = ⊥

pub not-refused : {A : Type 0} (value : A) (k : ℕ) → accepted value ≡ refused k → ⊥
not-refused value k e = subst Refuses (sym e) tt

pub refused-not : {A : Type 0} (k : ℕ) (value : A) → refused k ≡ accepted value → ⊥
refused-not k value e = not-refused value k (sym e)
