-- 02, L1: no owed tick is lost, and none is made that was not owed: every step, also a refused one, leaves what was owed and what it yielded, less what it
-- made; so over any list of operations. Assumes nothing.
use Prim.Native.Nat.{ℕ, ◌+◌}
use mathlib.Core.List.{[], ◌∷◌}
use mathlib.Core.Path.{◌≡◌, refl}
use native.Mathlib.Omega.{arith}
use Rattle.board.specs.declared.Board.{Board}
use Rattle.board.specs.Outcome.{Outcome}
use Rattle.step.specs.Step.{step, steps}
use Rattle.step.specs.Time.{yielded, all_yielded}
use Rattle.step.specs.Owed.{made_by, all_made, OwedKept, OwedInAll, OwedOnly}
use Rattle.step.proofs.Every.{every-plain, every-step}

abbrev Owes : Board → Outcome → Type 0
Owes b outcome = outcome.board.owed.0 + made_by outcome.reply ≡ b.owed.0 + yielded outcome.reply

same_none : (owed made ticks : ℕ) → ticks ≡ 0 → made ≡ 0 → owed + made ≡ owed + ticks
same_none owed made ticks t m = omega arith

-- a time call is accepted only where none was owed
none_before : (owed ticks : ℕ) → owed ≡ 0 → ticks + 0 ≡ owed + ticks
none_before owed ticks none = omega arith

-- what is owed after and what was made is what was owed before and what was yielded
pub owed-kept : OwedKept
owed-kept b o =
    every-step b (λ events ticks outcome. Owes b outcome)
    (λ events number. refl)
    (λ events bytes value channels plain fits three. same_none b.owed.0 _ _ plain.0 plain.1)
    (λ events w so_far. omega (arith, so_far.none-lost))
    (λ given warp defer none since. none_before b.owed.0 _ none)
    o

sums : (first later made more yields others owed : ℕ) → first + made ≡ owed + yields → later + more ≡ first + others
    → later + (made + more) ≡ owed + (yields + others)
sums first later made more yields others owed now then = omega arith

pub owed-in-all : OwedInAll
owed-in-all b [] = refl
owed-in-all b (o ∷ os) =
    sums (step b o).board.owed.0 (steps (step b o).board os).owed.0 (made_by (step b o).reply) (all_made (step b o).board os)
    (yielded (step b o).reply) (all_yielded (step b o).board os) b.owed.0 (owed-kept b o) (owed-in-all (step b o).board os)

-- every operation but a time call and the one that works ticks off
pub owed-only : OwedOnly
owed-only b o other =
    every-plain b (λ events ticks outcome. outcome.board.owed ≡ b.owed)
    (λ events number. refl)
    (λ events bytes value channels plain fits three. refl)
    o
    other
