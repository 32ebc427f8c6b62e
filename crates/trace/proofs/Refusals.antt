-- Demand 1 for traces: the number, the place and the operation of a refusal are those of the first row whose condition holds, both ways. Assumes nothing.
use Prim.Native.Nat.{ℕ, zero, suc, ◌+◌, ◌<◌, ◌≤◌}
use mathlib.Core.Path.{◌≡◌, sym}
use mathlib.Core.Bool.{Bool, true, false, not, cond, ◌||◌}
use mathlib.Core.List.{List, [], ◌∷◌, ◌++◌}
use mathlib.Core.Logic.{◌⊎◌, inl, inr, ⊎_elim, ◌↔◌}
use native.Mathlib.Nat.{eq-or-lt_of_le}
use native.Mathlib.Omega.{arith}
use lib.Dec.{ltb, eqb}
use lib.ListN.{length, get_or}
use borrow.Author.Tests.{eqb-false, ne_eqb}
use Rattle.refusal.proofs.Tests.{below, equal}
use Rattle.channel.proofs.Pick.{of-pick}
use Rattle.std.specs.Prelude.{Option}
use Rattle.trace.specs.declared.rule.Rule.{Rule}
use Rattle.trace.specs.declared.operation.Operation.{Operation}
use Rattle.trace.specs.declared.head.Head.{Head}
use Rattle.trace.specs.Judgement.{Judgement, Faulted, refused_by, sound, present, and_then}
use Rattle.numbers.specs.Number.{number_at}
use Rattle.trace.specs.Head.{head_of, read_head}
use Rattle.trace.specs.Rule.{code_broken, target_broken, zero_broken, size_broken}
use Rattle.trace.specs.Operation.{place_of, operation_of, operation_at, judged_by}
use Rattle.trace.specs.Sizes.{checkpoints_of}
use Rattle.trace.specs.Section.{section_end, section_three}
use Rattle.trace.specs.Trace.{before, operations_from, trace_of, after_head, read_trace}
use Rattle.trace.specs.Refusals.{Row, ends_before, settings_count, divisor_zero, model_above1, too_many_operations, unknown_code, TargetRule, target_not_zero, ZeroRule, number_not_zero, SizeRule, number_too_large, checkpoint_count, bytes_after, operation_order, operations_order, section_order, order, FirstAt}
use Rattle.trace.proofs.Parts.{then-decided, only-decided}
use Rattle.trace.proofs.Deciding.{Decided, accepts, tested, made_of, one_of, at_most, is, free, neither, guarded, breaks}

pub code-kept : (code : ℕ) → (code_broken code ≡ false) ↔ ((1 ≤ code) × (code ≤ 9))
code-kept code =
    let both = neither (eqb code 0) (ltb 9 code) (eqb-false code 0, ne_eqb code 0) (at_most 9 code) in (
      λ e. let kept = both.0 e in (omega (arith, kept.0), kept.1),
      λ kept. let least = kept.0 in both.1 (λ none. absurd (omega arith), kept.1),
    )

last-four : (code : ℕ) → 6 ≤ code → code ≤ 9 → (code ≡ 6) ⊎ ((code ≡ 7) ⊎ ((code ≡ 8) ⊎ (code ≡ 9)))
last-four code l h =
    ⊎_elim (λ six. inl (sym six))
    (λ above.
    inr (⊎_elim (λ seven. inl (sym seven))
    (λ past. inr (⊎_elim (λ eight. inl (sym eight)) (λ last. inr (omega arith)) (eq-or-lt_of_le past)))
    (eq-or-lt_of_le above)))
    (eq-or-lt_of_le l)

pub target-kept : (code target : ℕ) → code ≤ 9 → (target_broken code target ≡ false) ↔ TargetRule code target
target-kept code target h =
    let by_code = guarded (ltb code 6) false (not (eqb target 0)) (below code 6) free (is target 0) in (
      λ e four. (by_code.0 e).1 (λ low. ⊎_elim (λ q. absurd (omega arith)) (⊎_elim (λ q. absurd (omega arith)) (⊎_elim (λ q. absurd (omega arith)) (λ q. absurd (omega arith)))) four),
      λ kept. by_code.1 (λ low. tt, λ high. kept (last-four code (omega arith) h)),
    )

pub zero-kept : (code number : ℕ) → (zero_broken code number ≡ false) ↔ ZeroRule code number
zero-kept code number =
    let none = one_of (eqb code 2) (eqb code 5 || eqb code 8) (equal code 2) (one_of (eqb code 5) (eqb code 8) (equal code 5) (equal code 8)) in
    let by_code = guarded (eqb code 2 || (eqb code 5 || eqb code 8)) (not (eqb number 0)) false none (is number 0) free in
    (λ e. (by_code.0 e).0, λ kept. by_code.1 (kept, λ other. tt))

pub size-kept : (code number : ℕ) → (size_broken code number ≡ false) ↔ SizeRule code number
size-kept code number =
    let by_code =
    guarded (eqb code 1) (ltb 255 number) _ (equal code 1) (at_most 255 number)
    (guarded (eqb code 3) (ltb 1 number) false (equal code 3) (at_most 1 number) free) in (
      λ e. let kept = by_code.0 e in (kept.0, λ three. (kept.1 (λ one. absurd (omega arith))).0 three),
      λ kept. by_code.1 (kept.0, λ not-one. (kept.1, λ not_three. tt)),
    )

operation-decided : (bytes : List ℕ) (i : ℕ) (rest : Judgement (List Operation)) (rows : List Row) (f : Faulted) → Decided rest rows f
    → Decided (and_then (operation_at bytes i) (before rest)) (operation_order bytes i ++ rows) f
unfolding operation_at
operation-decided bytes i rest rows f d =
    let p = place_of i in
    let code = get_or bytes p 0 in
    let target = get_or bytes (p + 1) 0 in
    let given = number_at bytes (p + 2) in
    simp (of-pick (λ (j : Judgement Operation). and_then j (before rest)), of-pick (λ (r : Option Rule). and_then (judged_by r i (operation_of code target given)) (before rest)))
    (tested (ltb (length bytes) (p + 6)) (ends_before bytes (p + 6)) _ _ f (below (length bytes) (p + 6)) (λ there.
    tested (code_broken code) (unknown_code bytes i) _ _ f (breaks (code_broken code) (code-kept code)) (λ known.
    tested (target_broken code target) (target_not_zero bytes i) _ _ f (breaks (target_broken code target) (target-kept code target ((code-kept code).0 known).1)) (λ t.
    tested (zero_broken code given) (number_not_zero bytes i) _ _ f (breaks (zero_broken code given) (zero-kept code given)) (λ z.
    tested (size_broken code given) (number_too_large bytes i) _ _ f (breaks (size_broken code given) (size-kept code given)) (λ s.
    made_of rest (λ os. operation_of code target given ∷ os) rows f d))))))

operations-decided : (bytes : List ℕ) (i n : ℕ) (f : Faulted) → Decided (operations_from bytes i n) (operations_order bytes i n) f
operations-decided bytes i zero f = accepts [] f
operations-decided bytes i (suc n) f =
    operation-decided bytes i (operations_from bytes (suc i) n) (operations_order bytes (suc i) n) f (operations-decided bytes (suc i) n f)

-- a number that is first there and then by its rule
field-decided : {A : Type 0} (bytes : List ℕ) (at : ℕ) (r : Row) (broken : Bool) (rest : List Row) (after : Judgement A) (f : Faulted)
    → (broken ≡ true) ↔ r.condition → Decided after rest f
    → Decided (present bytes (at + 4) (cond broken (refused_by r.fault) after)) (ends_before bytes (at + 4) ∷ r ∷ rest) f
field-decided bytes at r broken rest after f means others =
    tested (ltb (length bytes) (at + 4)) (ends_before bytes (at + 4)) _ _ f (below (length bytes) (at + 4))
    (λ there. tested broken r rest after f means (λ kept. others))

section-decided : (bytes : List ℕ) (n : ℕ) (f : Faulted) → Decided (section_three bytes n) (section_order bytes n) f
unfolding section_three
section-decided bytes n f =
    let long = length bytes in
    let place = place_of n in
    only-decided (place < long) (ltb place long) _ tt _ f (below place long)
    (field-decided bytes place (checkpoint_count bytes n) (not (eqb (number_at bytes place) (checkpoints_of n))) _ _ f (breaks _ (is (number_at bytes place) (checkpoints_of n)))
    (tested (ltb long (section_end n)) (ends_before bytes (section_end n)) _ _ f (below long (section_end n)) (λ there.
    tested (ltb (section_end n) long) (bytes_after bytes (section_end n)) [] _ f (below (section_end n) long) (λ none. accepts tt f))))

trace-decided : (bytes : List ℕ) (f : Faulted) → Decided (read_trace bytes) (order bytes) f
unfolding read_trace read_head
trace-decided bytes f =
    let at = number_at bytes in
    let behind : (os : List Operation) → operations_from bytes 0 (at 12) ≡ sound os → Decided (and_then (section_three bytes (at 12)) (λ there. sound (trace_of (head_of bytes) os))) (section_order bytes (at 12)) f
    = λ os is. made_of (section_three bytes (at 12)) (λ there. trace_of (head_of bytes) os) _ f (section-decided bytes (at 12) f) in
    simp (of-pick (λ (j : Judgement Head). and_then j (after_head bytes)))
    (field-decided bytes 0 (settings_count bytes) (not (eqb (at 0) 2)) _ _ f (breaks _ (is (at 0) 2))
    (field-decided bytes 4 (divisor_zero bytes) (eqb (at 4) 0) _ _ f (equal (at 4) 0)
    (field-decided bytes 8 (model_above1 bytes) (ltb 1 (at 8)) _ _ f (below 1 (at 8))
    (field-decided bytes 12 (too_many_operations bytes) (ltb 4096 (at 12)) _ _ f (below 4096 (at 12))
    (then-decided (operations_from bytes 0 (at 12)) _ (operations_order bytes 0 (at 12)) _ f (operations-decided bytes 0 (at 12)) behind)))))

-- both directions, for all bytes, every number, every place and every operation named or none
pub trace-refused-exactly : (bytes : List ℕ) (f : Faulted) → (read_trace bytes ≡ refused_by f) ↔ FirstAt (order bytes) f
trace-refused-exactly bytes f = (trace-decided bytes f).exactly
