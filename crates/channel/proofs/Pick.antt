-- What a test picks: a function of it is what the test picks of the function's values, of two that are the same it is that one, and what holds of
-- both holds of it. Assumes nothing.
use mathlib.Core.Path.{◌≡◌, refl}
use mathlib.Core.Bool.{Bool, true, false, cond}

pub of-pick : {A B : Type 0} (f : A → B) (b : Bool) (x y : A) → f (cond b x y) ≡ cond b (f x) (f y)
of-pick f true x y = refl
of-pick f false x y = refl

pub pick_same : {A : Type 0} (b : Bool) (x : A) → cond b x x ≡ x
pick_same true x = refl
pick_same false x = refl

pub pick-holds : {A : Type 0} (P : A → Type 0) (b : Bool) (x y : A) → P x → P y → P (cond b x y)
pick-holds P true x y p q = p
pick-holds P false x y p q = q

-- the same, where each side may use what the test says
pub pick-knowing : {A : Type 0} (P : A → Type 0) (b : Bool) (x y : A) → (b ≡ true → P x) → (b ≡ false → P y) → P (cond b x y)
pick-knowing P true x y p q = p refl
pick-knowing P false x y p q = q refl
