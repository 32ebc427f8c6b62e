-- Nothing past as many bytes as the longest trace has, and one more, counts for the judgement of a trace. Assumes nothing.
use Prim.Native.Nat.{ℕ, zero, suc, ◌+◌, ◌<◌, ◌≤◌}
use mathlib.Core.Path.{◌≡◌, refl, ap}
use mathlib.Core.Bool.{Bool, true, false, not}
use mathlib.Core.List.{List}
use native.Mathlib.Omega.{arith}
use lib.Dec.{ltb, eqb}
use lib.ListN.{length, get_or, take}
use lib.Seq.{take_all, length-take-le, get_or-take}
use borrow.Author.Tests.{lt-ltb, le-ltb, ltb-true, ltb-false}
use Rattle.channel.proofs.Pick.{pick-holds, pick-knowing}
use Rattle.trace.specs.declared.head.Head.{Head}
use Rattle.trace.specs.Judgement.{Judgement}
use Rattle.numbers.specs.Number.{number_at}
use Rattle.trace.specs.Sizes.{checkpoints_of, count_size, longest_trace}
use Rattle.trace.specs.Head.{read_head}
use Rattle.trace.specs.Operation.{place_of, operation_at}
use Rattle.trace.specs.Section.{section_end, section_three}
use Rattle.trace.specs.Trace.{operations_from, after_head, read_trace}
use Rattle.trace.proofs.Values.{OfSound, after_same}

-- two lists that are both longer than the longest trace, and alike in its places
record Alike (a b : List ℕ) : Type 0 where
  first-long : longest_trace < length a
  second-long : longest_trace < length b
  alike : (p : ℕ) → p < longest_trace → get_or a p 0 ≡ get_or b p 0

number-alike : (a b : List ℕ) → Alike a b → (p : ℕ) → p + 4 ≤ longest_trace → number_at a p ≡ number_at b p
unfolding number_at
number-alike a b s p h =
    simp (s.alike p (omega arith), s.alike (p + 1) (omega arith), s.alike (p + 2) (omega arith), s.alike (p + 2 + 1) (omega arith))

head-alike : (a b : List ℕ) → Alike a b → read_head a ≡ read_head b
unfolding read_head
head-alike a b s =
    let there : (l : List ℕ) → longest_trace < length l → (end : ℕ) → end ≤ longest_trace → ltb (length l) end ≡ false = λ l long end h. le-ltb (length l) end (omega arith) in
    let in-a = there a s.first-long in
    let in_b = there b s.second-long in
    let number = number-alike a b s in
    simp (in-a 4 (omega arith), in-a 8 (omega arith), in-a 12 (omega arith), in-a 16 (omega arith), in_b 4 (omega arith), in_b 8 (omega arith), in_b 12 (omega arith), in_b 16 (omega arith), number 0 (omega arith), number 4 (omega arith), number 8 (omega arith), number 12 (omega arith))

operation-alike : (a b : List ℕ) → Alike a b → (i : ℕ) → i < 4096 → operation_at a i ≡ operation_at b i
unfolding operation_at
operation-alike a b s i h =
    let first-long = s.first-long in
    let second-long = s.second-long in
    simp (le-ltb (length a) (place_of i + 6) (omega arith), le-ltb (length b) (place_of i + 6) (omega arith), s.alike (place_of i) (omega arith), s.alike (place_of i + 1) (omega arith), number-alike a b s (place_of i + 2) (omega arith))

operations-alike : (a b : List ℕ) → Alike a b → (i n : ℕ) → i + n ≤ 4096 → operations_from a i n ≡ operations_from b i n
operations-alike a b s i zero h = refl
operations-alike a b s i (suc n) h =
    simp (operation-alike a b s i (omega arith), operations-alike a b s (suc i) n (omega arith))

-- both are longer than section three, so what comes behind it is too much in both
section-alike : (a b : List ℕ) → Alike a b → (n : ℕ) → n ≤ 4096 → section_three a n ≡ section_three b n
unfolding section_three
section-alike a b s n h =
    let first-long = s.first-long in
    let second-long = s.second-long in
    let few : checkpoints_of n ≤ 16 = omega arith in
    simp (
      lt-ltb (place_of n) (length a) (omega arith),
      lt-ltb (place_of n) (length b) (omega arith),
      le-ltb (length a) (place_of n + count_size) (omega arith),
      le-ltb (length b) (place_of n + count_size) (omega arith),
      number-alike a b s (place_of n) (omega arith),
      le-ltb (length a) (section_end n) (omega arith),
      le-ltb (length b) (section_end n) (omega arith),
      lt-ltb (section_end n) (length a) (omega arith),
      lt-ltb (section_end n) (length b) (omega arith),
    )

-- a sound head says that there are at most 4,096 operations
abbrev pub Few : Judgement Head → Type 0
Few = OfSound (λ h. h.operations ≤ 4096)

pub few : (bytes : List ℕ) → Few (read_head bytes)
unfolding read_head
few bytes =
    let number = number_at bytes in
    let long = length bytes in
    pick-holds Few (ltb long 4) _ _ tt (pick-holds Few (not (eqb (number 0) 2)) _ _ tt
    (pick-holds Few (ltb long 8) _ _ tt (pick-holds Few (eqb (number 4) 0) _ _ tt
    (pick-holds Few (ltb long 12) _ _ tt (pick-holds Few (ltb 1 (number 8)) _ _ tt
    (pick-holds Few (ltb long 16) _ _ tt (pick-knowing Few (ltb 4096 (number 12)) _ _ (λ t. tt) (λ f. ltb-false 4096 (number 12) f))))))))

trace-alike : (a b : List ℕ) → Alike a b → read_trace a ≡ read_trace b
unfolding read_trace
trace-alike a b s =
    rw (head-alike a b s)
    (after_same _ (read_head b) (after_head a) (after_head b) (few b)
    (λ h l. rw (operations-alike a b s 0 h.operations (omega arith)) (rw (section-alike a b s h.operations l) refl)))

by_length : (bytes : List ℕ) (n : ℕ) → longest_trace + 1 ≤ n → (longer : Bool) → ltb n (length bytes) ≡ longer → read_trace (take n bytes) ≡ read_trace bytes
by_length bytes n h true e =
    let long = ltb-true n (length bytes) e in
    let cut = length-take-le n bytes (omega arith) in
    trace-alike (take n bytes) bytes
    (record { first-long = omega arith; second-long = omega arith; alike = λ p l. get_or-take n bytes p 0 (omega arith) })
by_length bytes n h false e = ap read_trace (take_all n bytes (ltb-false n (length bytes) e))

pub first-bytes-decide : (bytes : List ℕ) (n : ℕ) → longest_trace + 1 ≤ n → read_trace (take n bytes) ≡ read_trace bytes
first-bytes-decide bytes n h = by_length bytes n h (ltb n (length bytes)) refl
