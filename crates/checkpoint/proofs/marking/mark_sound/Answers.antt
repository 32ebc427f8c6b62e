use Prim.Native.Nat.{ℕ, ◌+◌, ◌≤◌}
use mathlib.Core.List.{List, ◌++◌, append_assoc}
use mathlib.Core.Path.{◌≡◌, refl, ap, ◌∙◌}
use native.Mathlib.Omega.{arith}
use lib.ListN.{length, take, length-append}
use lib.Seq.{length-take-le}
use Rattle.numbers.specs.Little.{four_bytes}
use Rattle.text.specs.Put.{put, answered}
use Rattle.text.proofs.Puts.{Wrote, wrote, and_then, wrote-place, put-length}
use Rattle.trace.specs.Sizes.{checkpoints_of}
use Rattle.trace.specs.Operation.{place_of}
use Rattle.checkpoint.specs.Boards.{boards_from, size}
use Rattle.checkpoint.specs.Inner.{trace_found}
use Rattle.checkpoint.specs.Mark.{marked_as}
use Rattle.checkpoint.proofs.Found.{found-length}
use Rattle.checkpoint.proofs.Lengths.{boards-length}
use Rattle.checkpoint.proofs.marking.mark_sound.Goals as goal

-- the trace and the count of its checkpoints
abbrev front : List ℕ → ℕ → List ℕ
front bytes n = take (place_of n) bytes ++ four_bytes (checkpoints_of n)

-- the count is put behind the trace
counted : (bytes out : List ℕ) (n end number : ℕ) (count : List ℕ) (place₁ place₂ : ℕ) (out₁ out₂ : List ℕ) → end ≡ place_of n → number ≡ checkpoints_of n
    → count ≡ four_bytes number
    → answered place₁ out₁ ≡ put (take end bytes) out 0 → answered place₂ out₂ ≡ put count out₁ place₁ → Wrote (front bytes n) out 0 place₂ out₂
counted bytes out n end number count place₁ place₂ out₁ out₂ at many is first second =
    let one = first ∙ ap (λ (p : ℕ). put (take p bytes) out 0) at in
    let two = second ∙ ap (λ (text : List ℕ). put text out₁ place₁) (is ∙ ap four_bytes many) in
    and_then (wrote (take (place_of n) bytes) out 0 _ _ one) (four_bytes (checkpoints_of n)) _ _ two

front_length : (bytes : List ℕ) (n : ℕ) → place_of n ≤ length bytes → length (front bytes n) ≡ place_of n + 4
front_length bytes n h = simp (length-append, length-take-le (place_of n) bytes h)

pub put_boards-requires-clause-number_bound : goal.put_boards-requires-clause-number_bound
put_boards-requires-clause-number_bound c = omega (arith, c.checkpoints_of-number.ensures)

pub put_boards-requires-clause-number_in_bounds : goal.put_boards-requires-clause-number_in_bounds
put_boards-requires-clause-number_in_bounds c =
    let a = c.args in
    let bytes = a.trace.now in
    let n = a.head.operations in
    let whole = counted bytes a.out.now n _ _ _ _ _ _ _ c.place_of-end.ensures c.checkpoints_of-number.ensures c.four_bytes-count.ensures c.put-place.ensures c.put-place-2.ensures in
    let long = front_length bytes n c.requires.operations_in_bounds in
    let lent : length c.put-place-2.new.out ≡ length a.out.now = put-length _ _ _ _ _ c.put-place-2.ensures ∙ put-length _ _ _ _ _ c.put-place.ensures in
    let at = wrote-place whole (omega (arith, long, c.requires.operations_in_bounds_2)) in
    omega (arith, c.checkpoints_of-number.ensures, at, long, c.requires.operations_in_bounds_2, lent)

pub returns : goal.returns
returns c =
    let a = c.args in
    let bytes = a.trace.now in
    let n = a.head.operations in
    let whole = counted bytes a.out.now n _ _ _ _ _ _ _ c.place_of-end.ensures c.checkpoints_of-number.ensures c.four_bytes-count.ensures c.put-place.ensures c.put-place-2.ensures in
    let long = front_length bytes n c.requires.operations_in_bounds in
    let found = trace_found bytes a.head in
    let boards = boards_from found 0 (checkpoints_of n) in
    let many : size found ≡ n = found-length bytes 0 n in
    let all = and_then whole boards _ _ (c.put_boards.ensures ∙ ap (λ (k : ℕ). put (boards_from found 0 k) c.put-place-2.new.out c.put-place-2.result) c.checkpoints_of-number.ensures) in
    let is : front bytes n ++ boards ≡ marked_as bytes found = append_assoc (take (place_of n) bytes) (four_bytes (checkpoints_of n)) boards ∙ rw many refl in
    all.so (omega (arith, length-append (front bytes n) boards, long, boards-length found 0 (checkpoints_of n), c.requires.operations_in_bounds_2)) ∙ ap (λ (text : List ℕ). put text a.out.now 0) is
