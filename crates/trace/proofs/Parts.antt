-- Parts that are decided one after another, and one that counts only where it is begun. Assumes nothing.
use mathlib.Core.Path.{◌≡◌, refl, ap, sym, ◌∙◌}
use mathlib.Core.Bool.{Bool, true, false, cond, false≢true}
use mathlib.Core.List.{List, [], ◌∷◌, ◌++◌, map}
use mathlib.Core.Logic.{inl, inr, ⊎_elim, ◌↔◌}
use Rattle.trace.specs.Judgement.{Judgement, Faulted, refused_by, sound, and_then}
use Rattle.trace.specs.Refusals.{Row, FirstAt, only}
use Rattle.trace.proofs.Values.{not-refused, again}
use Rattle.trace.proofs.Deciding.{Decided}

-- no condition of the rows holds
abbrev Holds-none : List Row → Type 0
Holds-none [] = Unit
Holds-none (r ∷ rows) = (r.condition → ⊥) × Holds-none rows

none-holds : (rows : List Row) → ((f : Faulted) → FirstAt rows f → ⊥) → Holds-none rows
none-holds [] never = tt
none-holds (r ∷ rows) never =
    let fails : r.condition → ⊥ = λ holds. never r.fault (inl (refl, holds)) in
    (fails, none-holds rows (λ f first. never f (inr (fails, first))))

-- the first of two lists of rows, where there is one ..
in-first : (rows more : List Row) (f : Faulted) → FirstAt rows f → FirstAt (rows ++ more) f
in-first [] more f first = absurd first
in-first (r ∷ rows) more f first = ⊎_elim (λ here. inl here) (λ later. inr (later.0, in-first rows more f later.1)) first

-- .. and no other
same_first : (rows more : List Row) (g f : Faulted) → FirstAt rows g → FirstAt (rows ++ more) f → f ≡ g
same_first [] more g f none first = absurd none
same_first (r ∷ rows) more g f is first =
    ⊎_elim (λ here. ⊎_elim (λ also. also.0 ∙ sym here.0) (λ later. absurd (later.0 here.1)) first)
    (λ past. ⊎_elim (λ here. absurd (past.0 here.1)) (λ later. same_first rows more g f past.1 later.1) first)
    is

-- where none of the first holds, the others decide
past_first : (rows more : List Row) (f : Faulted) → Holds-none rows → FirstAt (rows ++ more) f ↔ FirstAt more f
past_first [] more f none = (λ first. first, λ first. first)
past_first (r ∷ rows) more f none =
    let others = past_first rows more f none.1 in
    (⊎_elim (λ here. absurd (none.0 here.1)) (λ later. others.0 later.1), λ first. inr (none.0, others.1 first))

pub then-decided : {A B : Type 0} (j : Judgement A) (after : A → Judgement B) (rows more : List Row) (f : Faulted)
    → ((g : Faulted) → Decided j rows g) → ((a : A) → j ≡ sound a → Decided (after a) more f) → Decided (and_then j after) (rows ++ more) f
then-decided (refused_by g) after rows more f first second =
    let is = (first g).exactly.0 refl in
    record {
      exactly = (λ e. in-first rows more f ((first f).exactly.0 (ap again e)), λ found. ap refused_by (sym (same_first rows more g f is found)));
    }
then-decided (sound a) after rows more f first second =
    let none = none-holds rows (λ g holds. not-refused a g ((first g).exactly.1 holds)) in
    let same = past_first rows more f none in
    let then = second a refl in
    record { exactly = (λ e. same.1 (then.exactly.0 e), λ found. then.exactly.1 (same.0 found)) }

-- rows that count only where P holds
where-it-holds : (P : Type 0) → P → (rows : List Row) (f : Faulted) → FirstAt (map (only P) rows) f ↔ FirstAt rows f
where-it-holds P p [] f = (λ first. first, λ first. first)
where-it-holds P p (r ∷ rows) f =
    let others = where-it-holds P p rows f in (
      ⊎_elim (λ here. inl (here.0, here.1.1)) (λ later. inr (λ holds. later.0 (p, holds), others.0 later.1)),
      ⊎_elim (λ here. inl (here.0, (p, here.1))) (λ later. inr (λ holds. later.0 holds.1, others.1 later.1)),
    )

where-it-fails : (P : Type 0) → (P → ⊥) → (rows : List Row) (f : Faulted) → FirstAt (map (only P) rows) f → ⊥
where-it-fails P fails [] f first = first
where-it-fails P fails (r ∷ rows) f first = ⊎_elim (λ here. fails here.1.0) (λ later. where-it-fails P fails rows f later.1) first

pub only-decided : {A : Type 0} (P : Type 0) (test : Bool) (j : Judgement A) (value : A) (rows : List Row) (f : Faulted) → (test ≡ true) ↔ P → Decided j rows f
    → Decided (cond test j (sound value)) (map (only P) rows) f
only-decided P true j value rows f means d =
    let same = where-it-holds P (means.0 refl) rows f in
    record { exactly = (λ e. same.1 (d.exactly.0 e), λ found. d.exactly.1 (same.0 found)) }
only-decided P false j value rows f means d =
    let fails : P → ⊥ = λ p. false≢true (means.1 p) in
    record { exactly = (λ e. absurd (not-refused value f e), λ found. absurd (where-it-fails P fails rows f found)) }
