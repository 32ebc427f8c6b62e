-- What a sound section three says of the bytes: the boards of its checkpoints stand whole in them. Assumes nothing.
use Prim.Native.Nat.{ℕ, ◌+◌}
use mathlib.Core.Bool.{Bool, true, false, not, cond}
use mathlib.Core.List.{List}
use mathlib.Core.Path.{◌≡◌, refl, subst}
use native.Mathlib.Omega.{arith}
use lib.Dec.{ltb, eqb}
use lib.ListN.{length}
use borrow.Author.Tests.{ltb-false}
use Rattle.channel.proofs.Pick.{pick-knowing}
use Rattle.numbers.specs.Number.{number_at}
use Rattle.trace.specs.Judgement.{Judgement, sound}
use Rattle.trace.specs.Sizes.{checkpoints_of}
use Rattle.trace.specs.Operation.{place_of}
use Rattle.trace.specs.Section.{section_end, section_three}
use Rattle.trace.proofs.Values.{OfSound}
use Rattle.checkpoint.specs.Boards.{checkpoints_in}
use Rattle.checkpoint.specs.Inner.{Standing}

-- where the section is begun, the bytes end with it
pub ends-begun : (bytes : List ℕ) (n : ℕ) → section_three bytes n ≡ sound tt → ltb (place_of n) (length bytes) ≡ true → length bytes ≡ section_end n
unfolding section_three
ends-begun bytes n is begun =
    let P : Judgement Unit → Type 0 = OfSound (λ (u : Unit). length bytes ≡ section_end n) in
    subst P (simp begun at is)
    (pick-knowing P (ltb (length bytes) (place_of n + 4)) _ _ (λ short. tt) (λ there.
    pick-knowing P (not (eqb (number_at bytes (place_of n)) (checkpoints_of n))) _ _ (λ broken. tt) (λ kept.
    pick-knowing P (ltb (length bytes) (section_end n)) _ _ (λ short. tt) (λ boards.
    pick-knowing P (ltb (section_end n) (length bytes)) _ _ (λ more. tt) (λ none.
    omega (arith, ltb-false (length bytes) (section_end n) boards, ltb-false (section_end n) (length bytes) none))))))

standing_by : (bytes : List ℕ) (n : ℕ) → section_three bytes n ≡ sound tt → (begun : Bool) → ltb (place_of n) (length bytes) ≡ begun
    → Standing bytes n (cond begun (checkpoints_of n) 0)
standing_by bytes n is true e =
    let long = ends-begun bytes n is e in
    record { few = omega arith; whole = λ k h. omega arith }
standing_by bytes n is false e = record { few = omega arith; whole = λ k h. absurd (omega arith) }

pub standing : (bytes : List ℕ) (n : ℕ) → section_three bytes n ≡ sound tt → Standing bytes n (checkpoints_in bytes n)
standing bytes n is = standing_by bytes n is (ltb (place_of n) (length bytes)) refl
