-- A trace that can be written down is read back from its bytes, with any section three of the form behind them or with none, so that equal bytes are of equal traces.
-- Assumes nothing.
use Prim.Native.Nat.{ℕ, suc, ◌+◌, ◌*◌, ◌<◌, ◌≤◌}
use mathlib.Core.Path.{◌≡◌, refl, sym, ap, subst}
use mathlib.Core.Bool.{true, false}
use mathlib.Core.List.{List, [], ◌∷◌, ◌++◌, append_assoc, append-nil}
use native.Mathlib.Omega.{arith}
use lib.ListN.{length, get_or, length-append}
use lib.Seq.{get_or-append-add}
use lib.Dec.{ltb}
use borrow.Author.Tests.{lt-ltb, le-ltb, eq-eqb, ne_eqb}
use Rattle.numbers.specs.Little.{four_bytes}
use Rattle.numbers.proofs.Little.{long-back}
use Rattle.channel.specs.declared.PitType.{PitType}
use Rattle.std.specs.Prelude.{None}
use Rattle.trace.specs.declared.operation.Operation.{Operation}
use Rattle.trace.specs.declared.operation.Operation.TheVariants.{WritePort, ReadPort, SetChannelGate, Counts, LoadCycle, CatchUp, Run, Reset, WorkOff}
use Rattle.trace.specs.Judgement.{sound}
use Rattle.numbers.specs.Number.{number_at}
use Rattle.channel.specs.Models.{model_number}
use Rattle.channel.proofs.Models.{model-back}
use Rattle.trace.specs.Head.{read_head}
use Rattle.trace.specs.Rule.{broken_rule}
use Rattle.trace.specs.Operation.{operation_of, place_of, operation_at}
use Rattle.trace.specs.Sizes.{checkpoints_of}
use Rattle.trace.specs.Section.{section_end, section_three}
use Rattle.trace.specs.Trace.{Trace, operations_from, read_trace}
use Rattle.trace.specs.Bytes.{six, operation_bytes, operations_bytes, trace_bytes, SectionForm, missing, counted, Holds, AllHold, Writable}

-- four numbers by their rules, with the bytes that they need
head-from : (bytes : List ℕ) (divisor : ℕ) (model : PitType) (operations : ℕ) → 16 ≤ length bytes → number_at bytes 0 ≡ 2 → number_at bytes 4 ≡ divisor
    → number_at bytes 8 ≡ model_number model → number_at bytes 12 ≡ operations → 0 < divisor → operations ≤ 4096
    → read_head bytes ≡ sound (record { divisor = divisor; model = model; operations = operations })
unfolding read_head
head-from bytes divisor model operations long count-is divisor-is model_is operations-is above few =
    let there : (end : ℕ) → end ≤ 16 → ltb (length bytes) end ≡ false = λ end h. le-ltb (length bytes) end (omega arith) in
    simp (there 4 (omega arith), there 8 (omega arith), there 12 (omega arith), there 16 (omega arith), count-is, divisor-is, ne_eqb divisor 0 (λ none. absurd (omega arith)), model_is, le-ltb 1 (model_number model) (model-back model).0, operations-is, le-ltb 4096 operations few, (model-back model).1)

abbrev head_bytes : ℕ → PitType → ℕ → List ℕ
head_bytes divisor model operations = four_bytes 2 ++ four_bytes divisor ++ four_bytes (model_number model) ++ four_bytes operations

head-back : (divisor : ℕ) (model : PitType) (operations : ℕ) (rest : List ℕ) → 0 < divisor → divisor < 4294967296 → operations ≤ 4096
    → read_head (head_bytes divisor model operations ++ rest) ≡ sound (record { divisor = divisor; model = model; operations = operations })
unfolding number_at
head-back divisor model operations rest above fits few =
    head-from (head_bytes divisor model operations ++ rest) divisor model operations (omega arith) refl (long-back divisor fits)
    (long-back (model_number model) (omega (arith, (model-back model).0))) (long-back operations (omega arith)) above few

-- six bytes by their rules
six-from : (bytes : List ℕ) (i code target number : ℕ) → place_of i + 6 ≤ length bytes → get_or bytes (place_of i) 0 ≡ code
    → get_or bytes (place_of i + 1) 0 ≡ target → number_at bytes (place_of i + 2) ≡ number → broken_rule code target number ≡ None
    → operation_at bytes i ≡ sound (operation_of code target number)
unfolding operation_at
six-from bytes i code target number long code_is target_is number_is kept = simp (le-ltb (length bytes) (place_of i + 6) long, code_is, target_is, number_is, kept)

six-back : (front rest : List ℕ) (i code target number : ℕ) → length front ≡ place_of i → number < 4294967296 → broken_rule code target number ≡ None
    → operation_at (front ++ (six code target number ++ rest)) i ≡ sound (operation_of code target number)
unfolding number_at
six-back front rest i code target number e fits kept =
    let here = six code target number ++ rest in
    let place = place_of i in
    let at : (k p : ℕ) → length front + k ≡ p → get_or (front ++ here) p 0 ≡ get_or here k 0
    = λ k p q. subst (λ (n : ℕ). get_or (front ++ here) n 0 ≡ get_or here k 0) q (get_or-append-add front here k 0) in
    let whole : length (front ++ here) ≡ length front + length here = length-append front here in
    six-from (front ++ here) i code target number (omega arith) (at 0 place (omega arith)) (at 1 (place + 1) (omega arith))
    (simp (at 2 (place + 2) (omega arith), at 3 (place + 2 + 1) (omega arith), at 4 (place + 2 + 2) (omega arith), at 5 (place + 2 + 2 + 1) (omega arith)) (long-back number fits))
    kept

operation-back : (front rest : List ℕ) (i : ℕ) (o : Operation) → length front ≡ place_of i → Holds o
    → operation_at (front ++ (operation_bytes o ++ rest)) i ≡ sound o
operation-back front rest i (WritePort port byte) e h =
    six-back front rest i 1 port byte e (omega (arith, h.1)) (rw (le-ltb 255 byte (omega (arith, h.1))) refl)
operation-back front rest i (ReadPort port) e h = six-back front rest i 2 port 0 e (omega arith) refl
operation-back front rest i (SetChannelGate channel true) e h = six-back front rest i 3 channel 1 e (omega arith) refl
operation-back front rest i (SetChannelGate channel false) e h = six-back front rest i 3 channel 0 e (omega arith) refl
operation-back front rest i (Counts channel number) e h = six-back front rest i 4 channel number e h.1 refl
operation-back front rest i (LoadCycle channel) e h = six-back front rest i 5 channel 0 e (omega arith) refl
operation-back front rest i (CatchUp given) e h = six-back front rest i 6 0 given.0 e h refl
operation-back front rest i (Run given) e h = six-back front rest i 7 0 given.0 e h refl
operation-back front rest i Reset e h = six-back front rest i 8 0 0 e (omega arith) refl
operation-back front rest i (WorkOff stated) e h = six-back front rest i 9 0 stated e h refl

six-long : (o : Operation) → length (operation_bytes o) ≡ 6
six-long (WritePort port byte) = refl
six-long (ReadPort port) = refl
six-long (SetChannelGate channel level) = refl
six-long (Counts channel number) = refl
six-long (LoadCycle channel) = refl
six-long (CatchUp given) = refl
six-long (Run given) = refl
six-long Reset = refl
six-long (WorkOff stated) = refl

operations-long : (os : List Operation) → length (operations_bytes os) ≡ 6 * length os
operations-long [] = refl
operations-long (o ∷ os) =
    let rest = operations-long os in
    let first = six-long o in
    simp (length-append) (omega arith)

-- the first operation, then the others
one-then : (bytes : List ℕ) (i n : ℕ) (o : Operation) (os : List Operation) → operation_at bytes i ≡ sound o
    → operations_from bytes (suc i) n ≡ sound os → operations_from bytes i (suc n) ≡ sound (o ∷ os)
one-then bytes i n o os first others = rw first (rw others refl)

operations-back : (front : List ℕ) (i : ℕ) (os : List Operation) (rest : List ℕ) → length front ≡ place_of i → AllHold os
    → operations_from (front ++ (operations_bytes os ++ rest)) i (length os) ≡ sound os
operations-back front i [] rest e h = refl
operations-back front i (o ∷ os) rest e h =
    let longer = length-append front (operation_bytes o) in
    let six = six-long o in
    let more = operations_bytes os ++ rest in
    let grouped : front ++ (operations_bytes (o ∷ os) ++ rest) ≡ front ++ (operation_bytes o ++ more)
    = ap (λ (xs : List ℕ). front ++ xs) (append_assoc (operation_bytes o) (operations_bytes os) rest) in
    let first : operation_at (front ++ (operation_bytes o ++ more)) i ≡ sound o = operation-back front more i o e h.0 in
    let others : operations_from (front ++ (operation_bytes o ++ more)) (suc i) (length os) ≡ sound os
    = subst (λ (xs : List ℕ). operations_from xs (suc i) (length os) ≡ sound os) (append_assoc front (operation_bytes o) more)
    (operations-back (front ++ operation_bytes o) (suc i) os rest (omega arith) h.1) in
    subst (λ (xs : List ℕ). operations_from xs i (suc (length os)) ≡ sound (o ∷ os)) (sym grouped) (one-then _ i (length os) o os first others)

-- a number behind other bytes
number_behind : (front rest : List ℕ) (n : ℕ) → n < 4294967296 → (place : ℕ) → length front ≡ place → number_at (front ++ (four_bytes n ++ rest)) place ≡ n
unfolding number_at
number_behind front rest n fits place e =
    let here = four_bytes n ++ rest in
    let at : (k p : ℕ) → length front + k ≡ p → get_or (front ++ here) p 0 ≡ get_or here k 0
    = λ k p q. subst (λ (m : ℕ). get_or (front ++ here) m 0 ≡ get_or here k 0) q (get_or-append-add front here k 0) in
    simp (at 0 place (omega arith), at 1 (place + 1) (omega arith), at 2 (place + 2) (omega arith), at 3 (place + 2 + 1) (omega arith)) (long-back n fits)

-- every section of the form is sound, whatever its boards say
pub section-back : (front : List ℕ) (n : ℕ) → length front ≡ place_of n → n ≤ 4096 → {section : List ℕ} → SectionForm n section → section_three (front ++ section) n ≡ sound tt
unfolding section_three
section-back front n e few missing =
    let whole = length-append front [] in simp (le-ltb (place_of n) (length (front ++ [])) (omega arith))
section-back front n e few (counted boards long) =
    let count = checkpoints_of n in
    let section = four_bytes count ++ boards in
    let whole : length (front ++ section) ≡ section_end n = let both = length-append front section in omega arith in
    simp (
      lt-ltb (place_of n) (length (front ++ section)) (omega arith),
      le-ltb (length (front ++ section)) (place_of n + 4) (omega arith),
      number_behind front boards count (omega arith) (place_of n) e,
      eq-eqb count count refl,
      le-ltb (length (front ++ section)) (section_end n) (omega arith),
      le-ltb (section_end n) (length (front ++ section)) (omega arith),
    )

module _ (t : Trace) (w : Writable t) where
  -- where section three begins
  pub trace-long : length (trace_bytes t) ≡ place_of (length t.operations)
  unfolding trace_bytes
  trace-long =
      let all = operations-long t.operations in
      simp (length-append) (omega arith)

  read-with : (section : List ℕ) → section_three (trace_bytes t ++ section) (length t.operations) ≡ sound tt
      → read_trace (trace_bytes t ++ section) ≡ sound t
  unfolding read_trace trace_bytes
  read-with section kept =
      let head = head_bytes t.divisor t.model (length t.operations) in
      let grouped : (head ++ operations_bytes t.operations) ++ section ≡ head ++ (operations_bytes t.operations ++ section)
      = append_assoc head (operations_bytes t.operations) section in
      rw (head-back t.divisor t.model (length t.operations) (operations_bytes t.operations ++ section) w.divisor-above w.divisor-fits w.not-too-many)
      (rw (operations-back head 0 t.operations section refl w.numbers_fit) (rw kept refl))

  pub read-back-with : {section : List ℕ} → SectionForm (length t.operations) section → read_trace (trace_bytes t ++ section) ≡ sound t
  read-back-with {section} form = read-with section (section-back (trace_bytes t) (length t.operations) trace-long w.not-too-many form)

  pub read-back : read_trace (trace_bytes t) ≡ sound t
  read-back = subst (λ (bytes : List ℕ). read_trace bytes ≡ sound t) (append-nil (trace_bytes t)) (read-back-with missing)

pub bytes-alike : (t u : Trace) → Writable t → Writable u → trace_bytes t ≡ trace_bytes u → t ≡ u
bytes-alike t u v w e = cc (read-back t v, read-back u w)
