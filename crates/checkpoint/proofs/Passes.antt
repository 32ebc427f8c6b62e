-- What the full check says where it passes: how many checkpoints there are, each with the bytes of the board that the trace has there. And it passes where they all have. Assumes
-- nothing.
use Prim.Native.Nat.{ℕ, zero, suc, ◌+◌, ◌≤◌, ◌<◌}
use mathlib.Core.Bool.{Bool, true, false, not, cond, false≢true}
use mathlib.Core.List.{List}
use mathlib.Core.Path.{◌≡◌, refl, sym, ap, subst, ◌∙◌}
use mathlib.Core.Logic.{◌↔◌}
use native.Mathlib.Nat.{add-zero, zero-add}
use native.Mathlib.Omega.{arith}
use borrow.Author.Tests.{not-false}
use Rattle.channel.proofs.Pick.{pick-knowing}
use Rattle.board_encoding.specs.Stored.{board_bytes}
use Rattle.trace.specs.Judgement.{Judgement, Faulted, refused_by, sound, refused_at, and_then}
use Rattle.trace.specs.Section.{checkpoint_place}
use Rattle.trace.specs.Trace.{Trace, read_trace}
use Rattle.trace.proofs.Values.{OfSound, not-refused, again}
use Rattle.checkpoint.specs.Boards.{size, checkpoint, checkpoint_bytes, checkpoints_in}
use Rattle.checkpoint.specs.Check.{same_bytes, check_from, check_first, check}
use Rattle.checkpoint.specs.Refusals.{Differs}
use Rattle.checkpoint.proofs.Same.{same-is, is_same}

-- so many checkpoints from k on are right
abbrev pub Right : List ℕ → Trace → ℕ → ℕ → Type 0
Right bytes t k left = (i : ℕ) → i < left → checkpoint_bytes bytes (size t) (k + i) ≡ board_bytes (checkpoint t (k + i))

one_right : (bytes : List ℕ) (t : Trace) (k left : ℕ) → checkpoint_bytes bytes (size t) k ≡ board_bytes (checkpoint t k) → Right bytes t (suc k) left → Right bytes t k (suc left)
one_right bytes t k left first rest zero h = rw (add-zero k) first
one_right bytes t k left first rest (suc i) h =
    let next : k + suc i ≡ suc k + i = omega arith in
    rw next (rest i (omega arith))

abbrev value_or : {A : Type 0} → A → Judgement A → A
value_or other (refused_by f) = other
value_or other (sound value) = value

mapped : {A : Type 0} {P Q : A → Type 0} (j : Judgement A) → OfSound P j → ((a : A) → P a → Q a) → OfSound Q j
mapped (refused_by f) h step = tt
mapped (sound a) h step = step a h

from-right : (bytes : List ℕ) (t : Trace) (k left : ℕ) → OfSound (λ (u : Unit). Right bytes t k left) (check_from bytes t k left)
from-right bytes t k zero = λ i h. absurd (omega arith)
from-right bytes t k (suc left) =
    let there = checkpoint_bytes bytes (size t) k in
    let made = board_bytes (checkpoint t k) in
    pick-knowing (OfSound (λ (u : Unit). Right bytes t k (suc left))) (not (same_bytes there made)) _ _ (λ differ. tt)
    (λ same. mapped (check_from bytes t (suc k) left) (from-right bytes t (suc k) left) (λ u rest. one_right bytes t k left (same-is there made (not-false (same_bytes there made) same)) rest))

right-from : (bytes : List ℕ) (t : Trace) (k left : ℕ) → Right bytes t k left → check_from bytes t k left ≡ sound tt
right-from bytes t k zero right = refl
right-from bytes t k (suc left) right =
    let first : checkpoint_bytes bytes (size t) k ≡ board_bytes (checkpoint t k) = rw add-zero at (right 0 (omega arith)) in
    let rest : Right bytes t (suc k) left = λ i h. let next : k + suc i ≡ suc k + i = omega arith in rw next at (right (suc i) (omega arith)) in
    rw (is_same (checkpoint_bytes bytes (size t) k) (board_bytes (checkpoint t k)) first) (right-from bytes t (suc k) left rest)

of-refused : (j : Judgement Unit) (n : ℕ) (f : Faulted) → and_then j (λ all. sound n) ≡ refused_by f → j ≡ refused_by f
of-refused (refused_by g) n f e = ap again e
of-refused (sound all) n f e = absurd (not-refused n f e)

one-wrong : {A P : Type 0} (place : ℕ) (same : Bool) (rest : Judgement A) (f : Faulted) → cond (not same) (refused_at 18 place) rest ≡ refused_by f
    → (same ≡ false → P) → (rest ≡ refused_by f → P) → P
one-wrong place true rest f e here later = later e
one-wrong place false rest f e here later = here refl

-- where the comparison stops, a checkpoint differs
first-wrong : (bytes : List ℕ) (t : Trace) (k left : ℕ) (f : Faulted) → check_from bytes t k left ≡ refused_by f
    → (i : ℕ) × (k ≤ i) × (i < k + left) × (checkpoint_bytes bytes (size t) i ≡ board_bytes (checkpoint t i) → ⊥)
first-wrong bytes t k zero f e = absurd (not-refused tt f e)
first-wrong bytes t k (suc left) f e =
    let there = checkpoint_bytes bytes (size t) k in
    let made = board_bytes (checkpoint t k) in
    one-wrong (checkpoint_place (size t) k) (same_bytes there made) (check_from bytes t (suc k) left) f e
    (λ differ. (k, omega arith, omega arith, λ same. false≢true (sym differ ∙ is_same there made same)))
    (λ later. let found = first-wrong bytes t (suc k) left f later in (found.0, omega (arith, found.1), omega (arith, found.2), found.3))

of-first : (j : Judgement Unit) (n number : ℕ) → and_then j (λ all. sound n) ≡ sound number → (j ≡ sound tt) × (n ≡ number)
of-first (refused_by f) n number e = absurd (not-refused number f (sym e))
of-first (sound all) n number e = (refl, ap (value_or n) e)

module _ (bytes : List ℕ) (t : Trace) (is : read_trace bytes ≡ sound t) where
  check-is : check bytes ≡ check_first bytes t (checkpoints_in bytes (size t))
  unfolding check
  check-is = rw is refl

  pub passed : (number : ℕ) → check bytes ≡ sound number → (checkpoints_in bytes (size t) ≡ number) × Right bytes t 0 number
  passed number e =
      let both = of-first (check_from bytes t 0 (checkpoints_in bytes (size t))) (checkpoints_in bytes (size t)) number (sym check-is ∙ e) in (
        both.1,
        subst (Right bytes t 0) both.1 (subst (OfSound (λ (u : Unit). Right bytes t 0 (checkpoints_in bytes (size t)))) both.0 (from-right bytes t 0 (checkpoints_in bytes (size t)))),
      )

  pub passes : Right bytes t 0 (checkpoints_in bytes (size t)) → check bytes ≡ sound (checkpoints_in bytes (size t))
  passes right = check-is ∙ rw (right-from bytes t 0 (checkpoints_in bytes (size t)) right) refl

  differs-by : (j : Judgement ℕ) → check bytes ≡ j → Differs bytes t → (f : Faulted) × (check bytes ≡ refused_by f)
  differs-by (refused_by f) e d = (f, e)
  differs-by (sound number) e d =
      let so = passed number e in
      absurd (d.2 (rw zero-add at (so.1 d.0 (subst (λ (n : ℕ). d.0 < n) so.0 d.1))))

  -- the check fails exactly on a trace some of whose checkpoint bytes differ
  pub fails-exactly : ((f : Faulted) × (check bytes ≡ refused_by f)) ↔ Differs bytes t
  fails-exactly = (
    λ found.
        let n = checkpoints_in bytes (size t) in
        let wrong = first-wrong bytes t 0 n found.0 (of-refused (check_from bytes t 0 n) n found.0 (sym check-is ∙ found.1)) in
        (wrong.0, omega (arith, wrong.2), wrong.3),
    λ d. differs-by (check bytes) refl d,
  )
