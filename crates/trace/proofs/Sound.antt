-- What a judgement without the list of operations says of the whole trace. Assumes nothing.
use Prim.Native.Nat.{ℕ, ◌≤◌}
use mathlib.Core.Path.{◌≡◌, refl, sym, ap, subst, ◌∙◌}
use mathlib.Core.List.{List}
use Rattle.trace.specs.declared.head.Head.{Head}
use Rattle.trace.specs.declared.operation.Operation.{Operation}
use Rattle.trace.specs.Judgement.{Judgement, Faulted, refused_by, sound, and_then}
use Rattle.trace.specs.Head.{read_head}
use Rattle.trace.specs.Section.{section_three}
use Rattle.trace.specs.Trace.{Trace, operations_from, trace_of, read_trace}
use Rattle.trace.specs.Answer.{summary}
use Rattle.trace.specs.Inner.{soundness, operations_of, behind_head}
use Rattle.trace.proofs.Values.{not-refused, again, OfSound, itself, through}
use Rattle.trace.proofs.Turns.{in_turn}
use Rattle.trace.proofs.Enough.{few}

-- a trace that is sound to its end, with what its head says
pub record SoundAs (bytes : List ℕ) (h : Head) : Type 0 where
  pub not-too-many : h.operations ≤ 4096
  pub all_sound : soundness (operations_from bytes 0 h.operations) ≡ sound tt
  pub section-sound : section_three bytes h.operations ≡ sound tt
  pub whole : read_trace bytes ≡ sound (trace_of h (operations_of (operations_from bytes 0 h.operations)))

by_parts : (bytes : List ℕ) (h : Head) → read_head bytes ≡ sound h → h.operations ≤ 4096
    → (j : Judgement (List Operation)) → operations_from bytes 0 h.operations ≡ j
    → (section : Judgement Unit) → section_three bytes h.operations ≡ section
    → OfSound (SoundAs bytes) (and_then (and_then (soundness j) (λ all. section)) (λ u. sound h))
unfolding read_trace
by_parts bytes h head most (refused_by f) e section three = tt
by_parts bytes h head most (sound os) e (refused_by f) three = tt
by_parts bytes h head most (sound os) e (sound there) three =
    record { not-too-many = most; all_sound = ap soundness e; section-sound = three; whole = rw head (rw e (rw three refl)) }

pub judged-sound : (bytes : List ℕ) (h : Head) → summary (read_trace bytes) ≡ sound h → SoundAs bytes h
judged-sound bytes h e =
    let in_head : Head → Type 0 = λ d. read_head bytes ≡ sound d in
    let after : Head → Judgement Head = λ d. and_then (behind_head bytes d.operations) (λ u. sound d) in
    subst (OfSound (SoundAs bytes)) (sym (in_turn bytes) ∙ e)
    (through in_head (SoundAs bytes) (read_head bytes) after (itself (read_head bytes))
    (λ d head. by_parts bytes d head (subst (OfSound (λ (g : Head). g.operations ≤ 4096)) head (few bytes)) (operations_from bytes 0 d.operations) refl (section_three bytes d.operations) refl))

same-refusal : (j : Judgement Trace) (f : Faulted) → summary j ≡ refused_by f → j ≡ refused_by f
same-refusal (refused_by other) f e = ap again e
same-refusal (sound t) f e = absurd (not-refused _ f e)

pub judged-refused : (bytes : List ℕ) (f : Faulted) → summary (read_trace bytes) ≡ refused_by f → read_trace bytes ≡ refused_by f
judged-refused bytes f e = same-refusal (read_trace bytes) f e
