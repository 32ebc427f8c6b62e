-- A fault that names an operation names one that the head counts; all its bytes are there, and the place is inside it. Assumes nothing.
use Prim.Native.Nat.{ℕ, zero, suc, ◌+◌, ◌<◌, ◌≤◌}
use mathlib.Core.Bool.{not}
use mathlib.Core.List.{List, ◌∷◌}
use mathlib.Core.Path.{◌≡◌, refl, subst}
use native.Mathlib.Omega.{arith}
use Rattle.std.specs.Prelude.{Option, None, Some}
use lib.Dec.{ltb, eqb}
use lib.ListN.{length, get_or}
use borrow.Author.Tests.{ltb-false}
use Rattle.channel.proofs.Pick.{pick-holds, pick-knowing}
use Rattle.numbers.specs.Number.{number_at}
use Rattle.trace.specs.declared.head.Head.{Head}
use Rattle.trace.specs.declared.rule.Rule.{Rule}
use Rattle.trace.specs.declared.rule.Rule.TheVariants.{Code, Target, NumberNotZero, NumberTooLarge}
use Rattle.trace.specs.declared.operation.Operation.{Operation}
use Rattle.trace.specs.Judgement.{Judgement, Faulted, refused_by, sound, and_then}
use Rattle.trace.specs.Head.{head_of, read_head}
use Rattle.trace.specs.Rule.{broken_rule}
use Rattle.trace.specs.Sizes.{checkpoints_of}
use Rattle.trace.specs.Section.{section_end, section_three}
use Rattle.trace.specs.Operation.{place_of, operation_of, judged_by, operation_at}
use Rattle.trace.specs.Trace.{before, operations_from, after_head, read_trace}
use Rattle.trace.specs.Refusals.{NamedIn}

-- what holds of the fault, if there is one
abbrev OfFault : {A : Type 0} → (Faulted → Type 0) → Judgement A → Type 0
OfFault P (refused_by f) = P f
OfFault P (sound value) = Unit

then-fault : {A B : Type 0} (P : Faulted → Type 0) (j : Judgement A) (after : A → Judgement B) → OfFault P j → ((a : A) → OfFault P (after a))
    → OfFault P (and_then j after)
then-fault P (refused_by f) after first second = first
then-fault P (sound a) after first second = second a

-- the numbers of a trace's faults end at 21
abbrev pub Named : List ℕ → ℕ → Faulted → Type 0
Named bytes operations f = NamedIn bytes operations f.place f.operation × (f.number ≤ 21)

module _ (bytes : List ℕ) (operations : ℕ) where
  abbrev P : Faulted → Type 0
  P = Named bytes operations

  rule-named : (rule : Option Rule) (i : ℕ) (o : Operation) → i < operations → operations ≤ 4096 → place_of i + 6 ≤ length bytes → OfFault P (judged_by rule i o)
  rule-named None i o counted few there = tt
  rule-named (Some Code) i o counted few there = ((counted, few, omega arith, omega arith, there), omega arith)
  rule-named (Some Target) i o counted few there = ((counted, few, omega arith, omega arith, there), omega arith)
  rule-named (Some NumberNotZero) i o counted few there = ((counted, few, omega arith, omega arith, there), omega arith)
  rule-named (Some NumberTooLarge) i o counted few there = ((counted, few, omega arith, omega arith, there), omega arith)

  operation-named : (i : ℕ) → i < operations → operations ≤ 4096 → OfFault P (operation_at bytes i)
  unfolding operation_at
  operation-named i counted few =
      let p = place_of i in
      let code = get_or bytes p 0 in
      let target = get_or bytes (p + 1) 0 in
      let number = number_at bytes (p + 2) in
      pick-knowing (OfFault P) (ltb (length bytes) (p + 6)) _ _ (λ short. (tt, omega arith)) (λ long.
      rule-named (broken_rule code target number) i (operation_of code target number) counted few (ltb-false (length bytes) (p + 6) long))

  operations-named : (i n : ℕ) → i + n ≤ operations → operations ≤ 4096 → OfFault P (operations_from bytes i n)
  operations-named i zero within few = tt
  operations-named i (suc n) within few =
      then-fault P (operation_at bytes i) (before (operations_from bytes (suc i) n)) (operation-named i (omega arith) few) (λ o.
      then-fault P (operations_from bytes (suc i) n) (λ os. sound (o ∷ os)) (operations-named (suc i) n (omega arith) few) (λ os. tt))

  section-named : OfFault P (section_three bytes operations)
  unfolding section_three
  section-named =
      let J : Judgement Unit → Type 0 = OfFault P in
      let long = length bytes in
      let place = place_of operations in
      let end = section_end operations in
      pick-holds J (ltb place long)
      _ _
      (pick-holds J (ltb long (place + 4)) _ _ (tt, omega arith) (pick-holds J (not (eqb (number_at bytes place) (checkpoints_of operations))) _ _ (tt, omega arith)
      (pick-holds J (ltb long end) _ _ (tt, omega arith) (pick-holds J (ltb end long) _ _ (tt, omega arith) tt))))
      tt

  behind-named : (h : Head) → h.operations ≡ operations → operations ≤ 4096 → OfFault P (after_head bytes h)
  behind-named h is few =
      then-fault P (operations_from bytes 0 h.operations) _ (rw is (operations-named 0 operations (omega arith) few)) (λ os.
      then-fault P (section_three bytes h.operations) _ (rw is section-named) (λ there. tt))

trace-named : (bytes : List ℕ) → OfFault (Named bytes (number_at bytes 12)) (read_trace bytes)
unfolding read_trace read_head
trace-named bytes =
    let number = number_at bytes in
    let long = length bytes in
    let J : Judgement Head → Type 0 = λ j. OfFault (Named bytes (number 12)) (and_then j (after_head bytes)) in
    pick-holds J (ltb long 4) _ _ (tt, omega arith) (pick-holds J (not (eqb (number 0) 2)) _ _ (tt, omega arith)
    (pick-holds J (ltb long 8) _ _ (tt, omega arith) (pick-holds J (eqb (number 4) 0) _ _ (tt, omega arith)
    (pick-holds J (ltb long 12) _ _ (tt, omega arith) (pick-holds J (ltb 1 (number 8)) _ _ (tt, omega arith)
    (pick-holds J (ltb long 16) _ _ (tt, omega arith) (pick-knowing J (ltb 4096 (number 12)) _ _ (λ many. (tt, omega arith))
    (λ few. behind-named bytes (number 12) (head_of bytes) refl (ltb-false 4096 (number 12) few)))))))))

-- of every trace that is refused
pub named-inside : (bytes : List ℕ) (f : Faulted) → read_trace bytes ≡ refused_by f → Named bytes (number_at bytes 12) f
named-inside bytes f e = subst (OfFault (Named bytes (number_at bytes 12))) e (trace-named bytes)
