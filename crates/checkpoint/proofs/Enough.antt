-- No byte past the first 26,373 counts for the full check, for marking or for a replay from a checkpoint, so what the programs read at most is enough. Assumes nothing.
use Prim.Native.Nat.{ℕ, ◌+◌, ◌<◌, ◌≤◌}
use mathlib.Core.Bool.{Bool, true, false}
use mathlib.Core.List.{List}
use mathlib.Core.Path.{◌≡◌, refl, sym, ap, ◌∙◌}
use native.Mathlib.Omega.{arith}
use lib.Dec.{ltb}
use lib.ListN.{length, take}
use lib.Seq.{take_all}
use borrow.Author.Tests.{ltb-true, ltb-false}
use Rattle.trace.specs.Judgement.{Judgement, Faulted, refused_by, sound, and_then}
use Rattle.trace.specs.Sizes.{longest_trace}
use Rattle.trace.specs.Operation.{place_of}
use Rattle.trace.specs.Trace.{Trace, read_trace}
use Rattle.trace.specs.Answer.{head_in, summary}
use Rattle.trace.proofs.Sound.{SoundAs, judged-sound}
use Rattle.trace.proofs.Enough.{first-bytes-decide}
use Rattle.line.specs.Lines.{fault_line}
use Rattle.checkpoint.specs.Boards.{size, checkpoints_in}
use Rattle.checkpoint.specs.Check.{check_first, check}
use Rattle.checkpoint.specs.From.{from_judged, printed_from}
use Rattle.checkpoint.specs.Mark.{marked_as, mark}
use Rattle.checkpoint.proofs.Sections.{ends-begun}

short-by : (bytes : List ℕ) (t : Trace) → SoundAs bytes (head_in t) → (begun : Bool) → ltb (place_of (size t)) (length bytes) ≡ begun → length bytes ≤ longest_trace
short-by bytes t whole true e = let end = ends-begun bytes (size t) whole.section-sound e in omega (arith, whole.not-too-many)
short-by bytes t whole false e = omega (arith, whole.not-too-many, ltb-false (place_of (size t)) (length bytes) e)

-- a sound trace has no more bytes
pub sound-short : (bytes : List ℕ) (t : Trace) → read_trace bytes ≡ sound t → length bytes ≤ longest_trace
sound-short bytes t is = short-by bytes t (judged-sound bytes (head_in t) (ap summary is)) (ltb (place_of (size t)) (length bytes)) refl

-- what is made of the bytes of a sound trace, or of the fault alone
module _ {X : Type 0} (made : List ℕ → Judgement Trace → X) (of-fault : Faulted → X) (alike : (bytes : List ℕ) (f : Faulted) → made bytes (refused_by f) ≡ of-fault f) where
  -- too many bytes for a sound trace
  by-fault : (bytes cut : List ℕ) → longest_trace < length bytes → read_trace cut ≡ read_trace bytes → (j : Judgement Trace) → read_trace bytes ≡ j
      → made cut (read_trace cut) ≡ made bytes (read_trace bytes)
  by-fault bytes cut long same (refused_by f) e = ap (made cut) (same ∙ e) ∙ alike cut f ∙ sym (alike bytes f) ∙ ap (made bytes) (sym e)
  by-fault bytes cut long same (sound t) e = absurd (omega (arith, long, sound-short bytes t e))

  by_length : (bytes : List ℕ) (n : ℕ) → longest_trace + 1 ≤ n → (longer : Bool) → ltb n (length bytes) ≡ longer
      → made (take n bytes) (read_trace (take n bytes)) ≡ made bytes (read_trace bytes)
  by_length bytes n h true e = by-fault bytes (take n bytes) (omega (arith, h, ltb-true n (length bytes) e)) (first-bytes-decide bytes n h) (read_trace bytes) refl
  by_length bytes n h false e = ap (λ (l : List ℕ). made l (read_trace l)) (take_all n bytes (ltb-false n (length bytes) e))

  first-bytes : (bytes : List ℕ) (n : ℕ) → longest_trace + 1 ≤ n → made (take n bytes) (read_trace (take n bytes)) ≡ made bytes (read_trace bytes)
  first-bytes bytes n h = by_length bytes n h (ltb n (length bytes)) refl

module _ (bytes : List ℕ) (n : ℕ) (h : longest_trace + 1 ≤ n) where
  pub first-bytes-check : check (take n bytes) ≡ check bytes
  unfolding check
  first-bytes-check = first-bytes (λ l j. and_then j (λ t. check_first l t (checkpoints_in l (size t)))) refused_by (λ l f. refl) bytes n h

  pub first-bytes-mark : mark (take n bytes) ≡ mark bytes
  unfolding mark
  first-bytes-mark = first-bytes (λ l j. and_then j (λ t. sound (marked_as l t))) refused_by (λ l f. refl) bytes n h

  pub first-bytes-from : (k : ℕ) → printed_from (take n bytes) k ≡ printed_from bytes k
  unfolding printed_from
  first-bytes-from k = first-bytes (λ l j. (from_judged l k j).text) fault_line (λ l f. refl) bytes n h
