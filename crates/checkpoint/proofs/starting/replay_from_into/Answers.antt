use mathlib.Core.Path.{sym, ap, ◌∙◌}
use Rattle.trace.specs.Judgement.{Judgement}
use Rattle.trace.specs.Trace.{Trace}
use Rattle.trace.specs.Answer.{fault_of}
use Rattle.trace.proofs.Sound.{judged-sound, judged-refused}
use Rattle.checkpoint.specs.From.{from_judged, text_into, replay_from_into}
use Rattle.checkpoint.proofs.Whole.{trace-found}
use Rattle.checkpoint.proofs.starting.replay_from_into.Goals as goal

pub from_sound-requires : goal.from_sound-requires
from_sound-requires c = (judged-sound _ c.in-Ok.head (sym c.in-Ok.ensures)).section-sound

pub returns-in-Err : goal.returns-in-Err
unfolding replay_from_into
returns-in-Err c =
    let a = c.args in
    let is = judged-refused a.trace.now (fault_of c.in-Err.fault) (sym c.in-Err.ensures) in
    c.say_fault.ensures ∙ ap (λ (j : Judgement Trace). text_into (from_judged a.trace.now a.k j) a.out.now) (sym is)

pub returns-in-Ok : goal.returns-in-Ok
unfolding replay_from_into
returns-in-Ok c =
    let a = c.args in
    let head = c.in-Ok.head in
    let is = trace-found a.trace.now head (judged-sound a.trace.now head (sym c.in-Ok.ensures)) in
    c.from_sound.ensures ∙ ap (λ (j : Judgement Trace). text_into (from_judged a.trace.now a.k j) a.out.now) (sym is)
