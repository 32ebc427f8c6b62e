use Prim.Native.Nat.{ℕ, ◌≤◌}
use mathlib.Core.Path.{◌≡◌, refl, sym, ap, subst, ◌∙◌}
use native.Mathlib.Omega.{arith}
use lib.ListN.{length}
use Rattle.text.proofs.Puts.{wrote}
use Rattle.trace.specs.Judgement.{sound}
use Rattle.trace.specs.Operation.{place_of}
use Rattle.trace.specs.Section.{section_end, checkpoint_place}
use Rattle.trace.specs.Trace.{read_trace}
use Rattle.trace.specs.Answer.{fault_of}
use Rattle.trace.proofs.Sound.{judged-sound, judged-refused}
use Rattle.trace.proofs.Long.{trace-long}
use Rattle.runner.proofs.Whole.{prints}
use Rattle.runner.proofs.Lent.{no-room, in-room}
use Rattle.checkpoint.specs.Boards.{size}
use Rattle.checkpoint.specs.Inner.{trace_found}
use Rattle.checkpoint.specs.Mark.{mark, marked_as, mark_into}
use Rattle.checkpoint.proofs.Found.{found-length}
use Rattle.checkpoint.proofs.Lengths.{marked-length}
use Rattle.checkpoint.proofs.Whole.{trace-found}
use Rattle.checkpoint.proofs.marking.mark_into.Goals as goal

pub returns-in-Err : goal.returns-in-Err
unfolding mark_into mark
returns-in-Err c = rw (judged-refused _ (fault_of c.in-Err.fault) (sym c.in-Err.ensures)) refl

pub returns-then-out-checkpoint_place : goal.returns-then-out-checkpoint_place
unfolding mark_into mark
returns-then-out-checkpoint_place c =
    let bytes = c.args.trace.now in
    let head = c.in-Ok.head in
    let sure = judged-sound bytes head (sym c.in-Ok.ensures) in
    let is_sound : read_trace bytes ≡ sound (trace_found bytes head) = trace-found bytes head sure in
    let many : size (trace_found bytes head) ≡ head.operations = found-length bytes 0 head.operations in
    let long : c.checkpoint_place.result ≡ section_end head.operations
    = c.checkpoint_place.ensures ∙ ap (checkpoint_place head.operations) c.checkpoints_of.ensures in
    let whole : place_of head.operations ≤ length bytes
    = subst (λ (n : ℕ). place_of n ≤ length bytes) many (trace-long bytes (trace_found bytes head) is_sound) in
    let room : length (marked_as bytes (trace_found bytes head)) ≡ c.checkpoint_place.result
    = marked-length bytes (trace_found bytes head) (rw many whole) ∙ ap section_end many ∙ sym long in
    rw is_sound (no-room _ (marked_as bytes (trace_found bytes head)) c.args.out.now (omega (arith, room, c.if-out-checkpoint_place.true)))

pub mark_sound-requires-clause-operations_in_bounds : goal.mark_sound-requires-clause-operations_in_bounds
mark_sound-requires-clause-operations_in_bounds c =
    let bytes = c.args.trace.now in
    let head = c.in-Ok.head in
    let sure = judged-sound bytes head (sym c.in-Ok.ensures) in
    let is_sound : read_trace bytes ≡ sound (trace_found bytes head) = trace-found bytes head sure in
    let many : size (trace_found bytes head) ≡ head.operations = found-length bytes 0 head.operations in
    let long : c.checkpoint_place.result ≡ section_end head.operations
    = c.checkpoint_place.ensures ∙ ap (checkpoint_place head.operations) c.checkpoints_of.ensures in
    let whole : place_of head.operations ≤ length bytes
    = subst (λ (n : ℕ). place_of n ≤ length bytes) many (trace-long bytes (trace_found bytes head) is_sound) in
    let room : length (marked_as bytes (trace_found bytes head)) ≡ c.checkpoint_place.result
    = marked-length bytes (trace_found bytes head) (rw many whole) ∙ ap section_end many ∙ sym long in
    whole

pub mark_sound-requires-clause-operations_in_bounds_2 : goal.mark_sound-requires-clause-operations_in_bounds_2
mark_sound-requires-clause-operations_in_bounds_2 c =
    let bytes = c.args.trace.now in
    let head = c.in-Ok.head in
    let sure = judged-sound bytes head (sym c.in-Ok.ensures) in
    let is_sound : read_trace bytes ≡ sound (trace_found bytes head) = trace-found bytes head sure in
    let many : size (trace_found bytes head) ≡ head.operations = found-length bytes 0 head.operations in
    let long : c.checkpoint_place.result ≡ section_end head.operations
    = c.checkpoint_place.ensures ∙ ap (checkpoint_place head.operations) c.checkpoints_of.ensures in
    let whole : place_of head.operations ≤ length bytes
    = subst (λ (n : ℕ). place_of n ≤ length bytes) many (trace-long bytes (trace_found bytes head) is_sound) in
    let room : length (marked_as bytes (trace_found bytes head)) ≡ c.checkpoint_place.result
    = marked-length bytes (trace_found bytes head) (rw many whole) ∙ ap section_end many ∙ sym long in
    omega (arith, long, c.if-out-checkpoint_place.false)

pub returns-else-out-checkpoint_place : goal.returns-else-out-checkpoint_place
unfolding mark_into mark
returns-else-out-checkpoint_place c =
    let bytes = c.args.trace.now in
    let head = c.in-Ok.head in
    let sure = judged-sound bytes head (sym c.in-Ok.ensures) in
    let is_sound : read_trace bytes ≡ sound (trace_found bytes head) = trace-found bytes head sure in
    let many : size (trace_found bytes head) ≡ head.operations = found-length bytes 0 head.operations in
    let long : c.checkpoint_place.result ≡ section_end head.operations
    = c.checkpoint_place.ensures ∙ ap (checkpoint_place head.operations) c.checkpoints_of.ensures in
    let whole : place_of head.operations ≤ length bytes
    = subst (λ (n : ℕ). place_of n ≤ length bytes) many (trace-long bytes (trace_found bytes head) is_sound) in
    let room : length (marked_as bytes (trace_found bytes head)) ≡ c.checkpoint_place.result
    = marked-length bytes (trace_found bytes head) (rw many whole) ∙ ap section_end many ∙ sym long in
    let marked = marked_as bytes (trace_found bytes head) in
    let out = c.args.out.now in
    let enough : length marked ≤ length out = omega (arith, room, c.if-out-checkpoint_place.false) in
    rw is_sound (in-room (length marked) marked out _ _ enough (prints (wrote marked out 0 _ _ c.mark_sound.ensures) enough))
