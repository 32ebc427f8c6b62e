use Rattle.std.proofs.Common.{sym, arith}
use Rattle.line.specs.Lines.{fault_line}
use Rattle.text.proofs.Puts.{wrote}
use Rattle.trace.specs.Answer.{fault_of}
use Rattle.trace.proofs.Sound.{judged-sound, judged-refused}
use Rattle.runner.specs.Printed.{printed}
use Rattle.runner.proofs.Whole.{prints, prints-counts}
use Rattle.runner.proofs.replay.Goals as goal

pub replay_sound-requires-clause-operations_value : goal.replay_sound-requires-clause-operations_value
replay_sound-requires-clause-operations_value c = (judged-sound _ _ (sym c.in-Ok.ensures)).all_sound

pub replay_sound-requires-clause-operations_bound : goal.replay_sound-requires-clause-operations_bound
replay_sound-requires-clause-operations_bound c = (judged-sound _ _ (sym c.in-Ok.ensures)).not-too-many

pub replay_sound-requires-clause-operations_in_bounds : goal.replay_sound-requires-clause-operations_in_bounds
replay_sound-requires-clause-operations_in_bounds c = omega (arith, (judged-sound _ _ (sym c.in-Ok.ensures)).not-too-many)

pub returns-in-Err-clause-prints : goal.returns-in-Err-clause-prints
unfolding printed
returns-in-Err-clause-prints c =
    let a = c.args in
    let fault = fault_of c.in-Err.fault in
    let line = c.put_sentence.ensures in
    rw (judged-refused a.trace.now fault (sym c.in-Err.ensures))
    (prints (wrote (fault_line fault) a.out.now 0 _ _ line.told) (omega (arith, line.short)))

pub returns-in-Err-clause-prefix_len : goal.returns-in-Err-clause-prefix_len
returns-in-Err-clause-prefix_len c =
    let a = c.args in
    let fault = fault_of c.in-Err.fault in
    let line = c.put_sentence.ensures in
    prints-counts (fault_line fault) a.out.now _ _ (prints (wrote (fault_line fault) a.out.now 0 _ _ line.told) (omega (arith, line.short)))

pub returns-in-Ok-clause-prints : goal.returns-in-Ok-clause-prints
unfolding printed
returns-in-Ok-clause-prints c = rw (judged-sound _ _ (sym c.in-Ok.ensures)).whole c.replay_sound.ensures
