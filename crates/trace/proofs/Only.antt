-- A sound trace has one form only: its bytes are those of what was read, which can be written down, and behind them nothing or a section three; and what is written is
-- bytes. Assumes nothing.
use Prim.Native.Nat.{ℕ, zero, suc, ◌+◌, ◌*◌, ◌/◌, ◌%◌, ◌<◌, ◌≤◌}
use mathlib.Core.Path.{◌≡◌, refl, sym, ap, subst, ◌∙◌}
use mathlib.Core.Bool.{not}
use mathlib.Core.List.{List, [], ◌∷◌, ◌++◌, append_assoc}
use mathlib.Core.Logic.{inl, inr}
use native.Mathlib.Nat.{zero-add, add-zero}
use native.Mathlib.Omega.{arith}
use lib.Dec.{ltb, eqb}
use lib.ListN.{length, get_or, drop, drop_of_length-le, length-drop}
use lib.Seq.{drop-cons}
use borrow.Author.Tests.{ltb-false, eqb-true, eqb-false, not-false}
use Rattle.numbers.specs.Flags.{flag_number}
use Rattle.numbers.specs.Little.{four_bytes}
use Rattle.channel.proofs.Pick.{pick-knowing}
use Rattle.std.specs.Prelude.{Option, None, Some}
use Rattle.trace.specs.declared.rule.Rule.{Rule}
use Rattle.trace.specs.declared.rule.Rule.TheVariants.{Code, Target, NumberNotZero, NumberTooLarge}
use Rattle.trace.specs.declared.head.Head.{Head}
use Rattle.trace.specs.declared.operation.Operation.{Operation}
use Rattle.trace.specs.declared.operation.Operation.TheVariants.{WritePort, ReadPort, SetChannelGate, Counts, LoadCycle, CatchUp, Run, Reset, WorkOff}
use Rattle.trace.specs.Judgement.{Judgement, sound, and_then}
use Rattle.numbers.specs.Number.{number_at}
use Rattle.channel.specs.Models.{model_number}
use Rattle.channel.proofs.Models.{model-number-back}
use Rattle.trace.specs.Head.{read_head}
use Rattle.trace.specs.Rule.{code_broken, target_broken, zero_broken, size_broken}
use Rattle.trace.specs.Operation.{operation_of, judged_by, place_of, operation_at}
use Rattle.board_encoding.specs.Places.{board_size}
use Rattle.trace.specs.Sizes.{checkpoints_of}
use Rattle.trace.specs.Section.{section_end, section_three}
use Rattle.trace.specs.Trace.{Trace, before, operations_from, trace_of, after_head, read_trace}
use Rattle.trace.specs.Refusals.{TargetRule, ZeroRule, SizeRule}
use Rattle.trace.specs.Bytes.{AllBytes, six, operation_bytes, operations_bytes, trace_bytes, behind, SectionForm, missing, counted, Holds, AllHold, Writable}
use Rattle.trace.proofs.Values.{OfSound, through}
use Rattle.trace.proofs.Refusals.{code-kept, target-kept, zero-kept, size-kept}

byte_at : (bytes : List ℕ) → AllBytes bytes → (p : ℕ) → get_or bytes p 0 < 256
byte_at [] all p = omega arith
byte_at (x ∷ xs) all zero = all.0
byte_at (x ∷ xs) all (suc p) = byte_at xs all.1 p

number_fits : (bytes : List ℕ) → AllBytes bytes → (p : ℕ) → number_at bytes p < 4294967296
unfolding number_at
number_fits bytes all p =
    let at = byte_at bytes all in
    omega (arith, at p, at (p + 1), at (p + 2), at (p + 2 + 1))

-- the bytes of the number that four bytes are, are these four
four-of : (a b c d : ℕ) (rest : List ℕ) → a < 256 → b < 256 → c < 256 → d < 256 → four_bytes (a + 256 * b + 65536 * (c + 256 * d)) ++ rest ≡ a ∷ b ∷ c ∷ d ∷ rest
four-of a b c d rest ha hb hc hd =
    let n = a + 256 * b + 65536 * (c + 256 * d) in
    let once : n / 256 ≡ b + 256 * (c + 256 * d) = omega arith in
    let twice : n / 256 / 256 ≡ c + 256 * d = rw once (omega arith) in
    let thrice : n / 256 / 256 / 256 ≡ d = rw twice (omega arith) in
    let low : n % 256 ≡ a = omega arith in
    let second : n / 256 % 256 ≡ b = rw once (omega arith) in
    let third : n / 256 / 256 % 256 ≡ c = rw twice (omega arith) in
    let high : n / 256 / 256 / 256 % 256 ≡ d = rw thrice (omega arith) in
    λ i. low i ∷ second i ∷ third i ∷ high i ∷ rest

first_of : (bytes : List ℕ) (p q : ℕ) → q ≡ suc p → q ≤ length bytes → drop p bytes ≡ get_or bytes p 0 ∷ drop q bytes
first_of bytes p q e h = rw e (drop-cons bytes p 0 (omega arith))

four-form : (bytes : List ℕ) → AllBytes bytes → (p : ℕ) → p + 4 ≤ length bytes → four_bytes (number_at bytes p) ++ drop (p + 4) bytes ≡ drop p bytes
unfolding number_at
four-form bytes all p h =
    let at = byte_at bytes all in
    rw (first_of bytes p (p + 1) (omega arith) (omega arith))
    (rw (first_of bytes (p + 1) (p + 2) (omega arith) (omega arith))
    (rw (first_of bytes (p + 2) (p + 2 + 1) (omega arith) (omega arith))
    (rw (first_of bytes (p + 2 + 1) (p + 4) (omega arith) (omega arith))
    (four-of _ _ _ _ (drop (p + 4) bytes) (at p) (at (p + 1)) (at (p + 2)) (at (p + 2 + 1))))))

six-form : (bytes : List ℕ) → AllBytes bytes → (p q : ℕ) → q ≡ p + 6 → q ≤ length bytes
    → six (get_or bytes p 0) (get_or bytes (p + 1) 0) (number_at bytes (p + 2)) ++ drop q bytes ≡ drop p bytes
six-form bytes all p q e h =
    let end : q ≡ p + 2 + 4 = omega arith in
    rw (first_of bytes p (p + 1) (omega arith) (omega arith))
    (rw (first_of bytes (p + 1) (p + 2) (omega arith) (omega arith))
    (rw end (ap (λ (rest : List ℕ). get_or bytes p 0 ∷ get_or bytes (p + 1) 0 ∷ rest) (four-form bytes all (p + 2) (omega arith)))))

flag-back : (number : ℕ) → number ≤ 1 → flag_number (eqb number 1) ≡ number
flag-back zero h = refl
flag-back (suc zero) h = refl
flag-back (suc (suc number)) h = absurd (omega arith)

-- the operation that six bytes are by the rules has these six bytes
by-rules : (code target number : ℕ) → (1 ≤ code) × (code ≤ 9) → TargetRule code target → ZeroRule code number → SizeRule code number → target < 256 → number < 4294967296
    → Holds (operation_of code target number) × (operation_bytes (operation_of code target number) ≡ six code target number)
by-rules code target number known t z s byte fits =
    let P : Operation → Type 0 = λ o. Holds o × (operation_bytes o ≡ six code target number) in
    let is = eqb-true code in
    let apart = eqb-false code in
    pick-knowing P (eqb code 1) _ _ (λ e. ((byte, omega (arith, s.0 (is 1 e))), rw (is 1 e) refl)) (λ not-1.
    pick-knowing P (eqb code 2) _ _ (λ e. (byte, rw (z (inl (is 2 e))) (rw (is 2 e) refl))) (λ not-2.
    pick-knowing P (eqb code 3) _ _ (λ e. (byte, rw (flag-back number (s.1 (is 3 e))) (rw (is 3 e) refl))) (λ not-3.
    pick-knowing P (eqb code 4) _ _ (λ e. ((byte, fits), rw (is 4 e) refl)) (λ not-4.
    pick-knowing P (eqb code 5) _ _ (λ e. (byte, rw (z (inr (inl (is 5 e)))) (rw (is 5 e) refl))) (λ not-5.
    pick-knowing P (eqb code 6) _ _ (λ e. (fits, rw (t (inl (is 6 e))) (rw (is 6 e) refl))) (λ not-6.
    pick-knowing P (eqb code 7) _ _ (λ e. (fits, rw (t (inr (inl (is 7 e)))) (rw (is 7 e) refl))) (λ not-7.
    pick-knowing P (eqb code 8) _ _ (λ e. (tt, rw (t (inr (inr (inl (is 8 e))))) (rw (z (inr (inr (is 8 e)))) (rw (is 8 e) refl)))) (λ not-8.
    let above : 4 < code = omega (arith, known.0, apart 1 not-1, apart 2 not-2, apart 3 not-3, apart 4 not-4) in
    let last : code ≡ 9 = omega (arith, known.1, apart 5 not-5, apart 6 not-6, apart 7 not-7, apart 8 not-8) in
    (fits, rw (t (inr (inr (inr last)))) (rw last refl))))))))))

-- the operation that was read at an index has the six bytes there
abbrev Written : List ℕ → ℕ → Operation → Type 0
Written bytes i o = Holds o × (operation_bytes o ++ drop (place_of (suc i)) bytes ≡ drop (place_of i) bytes)

operation-form : (bytes : List ℕ) → AllBytes bytes → (i : ℕ) → OfSound (Written bytes i) (operation_at bytes i)
unfolding operation_at
operation-form bytes all i =
    let p = place_of i in
    let code = get_or bytes p 0 in
    let target = get_or bytes (p + 1) 0 in
    let number = number_at bytes (p + 2) in
    let P : Option Rule → Type 0 = λ r. OfSound (Written bytes i) (judged_by r i (operation_of code target number)) in
    pick-knowing (OfSound (Written bytes i)) (ltb (length bytes) (p + 6)) _ _ (λ short. tt) (λ long.
    pick-knowing P (code_broken code) (Some Code) _ (λ broken. tt) (λ c.
    pick-knowing P (target_broken code target) (Some Target) _ (λ broken. tt) (λ t.
    pick-knowing P (zero_broken code number) (Some NumberNotZero) _ (λ broken. tt) (λ z.
    pick-knowing P (size_broken code number) (Some NumberTooLarge) None (λ broken. tt) (λ s.
    let known = (code-kept code).0 c in
    let written =
    by-rules code target number known ((target-kept code target known.1).0 t) ((zero-kept code number).0 z) ((size-kept code number).0 s) (byte_at bytes all (p + 1)) (number_fits bytes all (p + 2)) in
    (written.0, rw written.1 (six-form bytes all p (place_of (suc i)) (omega arith) (omega (arith, ltb-false (length bytes) (p + 6) long)))))))))

-- the operations that were read from an index on, as many as were asked for, have the bytes from there up to what is behind them
abbrev AllWritten : List ℕ → ℕ → ℕ → List Operation → Type 0
AllWritten bytes i n os = AllHold os × (length os ≡ n) × (operations_bytes os ++ drop (place_of (i + n)) bytes ≡ drop (place_of i) bytes)

operations-form : (bytes : List ℕ) → AllBytes bytes → (i n : ℕ) → OfSound (AllWritten bytes i n) (operations_from bytes i n)
operations-form bytes all i zero = (tt, refl, ap (λ (p : ℕ). drop (place_of p) bytes) (add-zero i))
operations-form bytes all i (suc n) =
    let next : suc i + n ≡ i + suc n = omega arith in
    through (Written bytes i) (AllWritten bytes i (suc n)) (operation_at bytes i) (before (operations_from bytes (suc i) n)) (operation-form bytes all i)
    (λ o first.
    through (AllWritten bytes (suc i) n) (AllWritten bytes i (suc n)) (operations_from bytes (suc i) n) (λ os. sound (o ∷ os)) (operations-form bytes all (suc i) n)
    (λ os rest. (
      (first.0, rest.0),
      ap suc rest.1,
      append_assoc (operation_bytes o) (operations_bytes os) _ ∙ ap (λ (l : List ℕ). operation_bytes o ++ l) (ap (λ (p : ℕ). operations_bytes os ++ drop (place_of p) bytes) (sym next) ∙ rest.2) ∙ first.1,
    )))

-- the head that was read has the first 16 bytes
abbrev HeadWritten : List ℕ → Head → Type 0
HeadWritten bytes h =
    (0 < h.divisor) × (h.divisor < 4294967296) × (h.operations ≤ 4096)
    × (four_bytes 2 ++ four_bytes h.divisor ++ four_bytes (model_number h.model) ++ four_bytes h.operations ++ drop 16 bytes ≡ bytes)

head-form : (bytes : List ℕ) → AllBytes bytes → OfSound (HeadWritten bytes) (read_head bytes)
unfolding read_head
head-form bytes all =
    let P = OfSound (HeadWritten bytes) in
    let at = number_at bytes in
    let long = length bytes in
    let four = four-form bytes all in
    pick-knowing P (ltb long 4) _ _ (λ short. tt) (λ to-4. pick-knowing P (not (eqb (at 0) 2)) _ _ (λ broken. tt) (λ count.
    pick-knowing P (ltb long 8) _ _ (λ short. tt) (λ to-8. pick-knowing P (eqb (at 4) 0) _ _ (λ broken. tt) (λ above.
    pick-knowing P (ltb long 12) _ _ (λ short. tt) (λ to-12. pick-knowing P (ltb 1 (at 8)) _ _ (λ broken. tt) (λ model.
    pick-knowing P (ltb long 16) _ _ (λ short. tt) (λ to-16. pick-knowing P (ltb 4096 (at 12)) _ _ (λ broken. tt) (λ few.
    let there : 16 ≤ length bytes = ltb-false long 16 to-16 in
    let first : four_bytes 2 ++ drop 4 bytes ≡ bytes = subst (λ (n : ℕ). four_bytes n ++ drop 4 bytes ≡ bytes) (eqb-true (at 0) 2 (not-false _ count)) (four 0 (omega arith)) in
    let whole : four_bytes 2 ++ (four_bytes (at 4) ++ (four_bytes (at 8) ++ (four_bytes (at 12) ++ drop 16 bytes))) ≡ bytes =
    rw (four 12 there) (rw (four 8 (omega arith)) (rw (four 4 (omega arith)) first)) in (
      omega (arith, eqb-false (at 4) 0 above),
      number_fits bytes all 4,
      ltb-false 4096 (at 12) few,
      rw (model-number-back (at 8) (ltb-false 1 (at 8) model)) whole,
    )))))))))

-- what stands behind the operations of a sound trace: nothing, or the count with its boards
section-form : (bytes : List ℕ) → AllBytes bytes → (n : ℕ) → OfSound (λ (u : Unit). SectionForm n (behind bytes n)) (section_three bytes n)
unfolding section_three
section-form bytes all n =
    let P : Judgement Unit → Type 0 = OfSound (λ (u : Unit). SectionForm n (behind bytes n)) in
    let p = place_of n in
    let count = checkpoints_of n in
    pick-knowing P (ltb p (length bytes)) _ _
    (λ begun.
    pick-knowing P (ltb (length bytes) (p + 4)) _ _ (λ short. tt) (λ there.
    pick-knowing P (not (eqb (number_at bytes p) count)) _ _ (λ broken. tt) (λ kept.
    pick-knowing P (ltb (length bytes) (section_end n)) _ _ (λ short. tt) (λ boards.
    pick-knowing P (ltb (section_end n) (length bytes)) _ _ (λ more. tt) (λ none.
    let least : p + 4 ≤ length bytes = ltb-false (length bytes) (p + 4) there in
    let enough : section_end n ≤ length bytes = ltb-false (length bytes) (section_end n) boards in
    let most : length bytes ≤ section_end n = ltb-false (section_end n) (length bytes) none in
    let number : number_at bytes p ≡ count = eqb-true (number_at bytes p) count (not-false _ kept) in
    let long : length (drop (p + 4) bytes) ≡ board_size * count = simp length-drop (omega arith) in
    subst (SectionForm n) (subst (λ (k : ℕ). four_bytes k ++ drop (p + 4) bytes ≡ drop p bytes) number (four-form bytes all p least))
    (counted (drop (p + 4) bytes) long))))))
    (λ not-begun. subst (SectionForm n) (sym (drop_of_length-le bytes (ltb-false p (length bytes) not-begun))) missing)

pub only-form : (bytes : List ℕ) → AllBytes bytes → (t : Trace) → read_trace bytes ≡ sound t
    → Writable t × (trace_bytes t ++ behind bytes (length t.operations) ≡ bytes) × SectionForm (length t.operations) (behind bytes (length t.operations))
unfolding read_trace trace_bytes
only-form bytes all t e =
    let P : Trace → Type 0 = λ t. Writable t × (trace_bytes t ++ behind bytes (length t.operations) ≡ bytes) × SectionForm (length t.operations) (behind bytes (length t.operations)) in
    let whole : OfSound P (and_then (read_head bytes) (after_head bytes)) =
    through (HeadWritten bytes) P (read_head bytes) (after_head bytes) (head-form bytes all)
    (λ h head. through (AllWritten bytes 0 h.operations) P (operations_from bytes 0 h.operations) _ (operations-form bytes all 0 h.operations)
    (λ os rest. through (λ (u : Unit). SectionForm h.operations (behind bytes h.operations)) P (section_three bytes h.operations) (λ there. sound (trace_of h os)) (section-form bytes all h.operations)
    (λ there form. (
      record { divisor-above = head.0; divisor-fits = head.1; not-too-many = subst (λ (n : ℕ). n ≤ 4096) (sym rest.1) head.2; numbers_fit = rest.0 },
      rw rest.1 (append_assoc (four_bytes 2 ++ four_bytes h.divisor ++ four_bytes (model_number h.model) ++ four_bytes h.operations) (operations_bytes os) _ ∙ ap (λ (l : List ℕ). four_bytes 2 ++ four_bytes h.divisor ++ four_bytes (model_number h.model) ++ four_bytes h.operations ++ l) (ap (λ (p : ℕ). operations_bytes os ++ drop (place_of p) bytes) (sym (zero-add h.operations)) ∙ rest.2) ∙ head.3),
      rw rest.1 form,
    )))) in
    subst (OfSound P) e whole

-- what is written is bytes
appended : (xs ys : List ℕ) → AllBytes xs → AllBytes ys → AllBytes (xs ++ ys)
appended [] ys first second = second
appended (x ∷ xs) ys first second = (first.0, appended xs ys first.1 second)

four-bytes : (n : ℕ) → AllBytes (four_bytes n)
four-bytes n = (omega arith, (omega arith, (omega arith, (omega arith, tt))))

six-bytes : (code target number : ℕ) → code < 256 → target < 256 → AllBytes (six code target number)
six-bytes code target number c t = (c, (t, four-bytes number))

operation-bytes : (o : Operation) → Holds o → AllBytes (operation_bytes o)
operation-bytes (WritePort port byte) h = six-bytes 1 port byte (omega arith) h.0
operation-bytes (ReadPort port) h = six-bytes 2 port 0 (omega arith) h
operation-bytes (SetChannelGate channel level) h = six-bytes 3 channel (flag_number level) (omega arith) h
operation-bytes (Counts channel number) h = six-bytes 4 channel number (omega arith) h.0
operation-bytes (LoadCycle channel) h = six-bytes 5 channel 0 (omega arith) h
operation-bytes (CatchUp given) h = six-bytes 6 0 given.0 (omega arith) (omega arith)
operation-bytes (Run given) h = six-bytes 7 0 given.0 (omega arith) (omega arith)
operation-bytes Reset h = six-bytes 8 0 0 (omega arith) (omega arith)
operation-bytes (WorkOff stated) h = six-bytes 9 0 stated (omega arith) (omega arith)

operations-bytes : (os : List Operation) → AllHold os → AllBytes (operations_bytes os)
operations-bytes [] h = tt
operations-bytes (o ∷ os) h = appended (operation_bytes o) (operations_bytes os) (operation-bytes o h.0) (operations-bytes os h.1)

pub written-bytes : (t : Trace) → Writable t → AllBytes (trace_bytes t)
unfolding trace_bytes
written-bytes t w =
    let divisor = four_bytes t.divisor in
    let model = four_bytes (model_number t.model) in
    let number = four_bytes (length t.operations) in
    appended (four_bytes 2 ++ divisor ++ model ++ number) (operations_bytes t.operations)
    (appended (four_bytes 2 ++ divisor ++ model) number
    (appended (four_bytes 2 ++ divisor) model (appended (four_bytes 2) divisor (four-bytes 2) (four-bytes t.divisor)) (four-bytes (model_number t.model)))
    (four-bytes (length t.operations)))
    (operations-bytes t.operations w.numbers_fit)
