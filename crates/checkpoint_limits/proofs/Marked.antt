-- A trace with its checkpoints, made of one without.
use Rattle.std.proofs.Common.{◌≡◌, ℕ, List, take, ap, ◌∙◌}
use Rattle.text.specs.Put.{Put, answered}
use Rattle.std.specs.Prelude.{Result}
use Rattle.runner.specs.declared.lending.ReplayError.{ReplayError}
use Rattle.runner.specs.Lent.{reply_in, replayed}
use Rattle.checkpoint.specs.Mark.{mark_into}
use Rattle.checkpoint_limits.specs.Asked.{end_written}
use Rattle.checkpoint_limits.specs.Made.{blank, plain_for, end_and_bytes, marked_of, marked_for}

pub marked-made : (source bytes : List ℕ) (operations end n : ℕ) (empty plain part last : List ℕ) (r : Result ℕ ReplayError)
    → empty ≡ blank → answered end plain ≡ plain_for source operations empty → part ≡ take end plain → replayed r last ≡ mark_into part bytes
    → n ≡ end_written (reply_in r) → answered n last ≡ marked_for source operations bytes
unfolding marked_for
marked-made source bytes operations end n empty plain part last r starts made cut e is =
    ap (λ (k : ℕ). answered k last) is
    ∙ ap end_and_bytes e
    ∙ ap (λ (t : List ℕ). end_and_bytes (mark_into t bytes)) cut
    ∙ ap (λ (p : Put). marked_of p bytes) made
    ∙ ap (λ (l : List ℕ). marked_of (plain_for source operations l) bytes) starts
