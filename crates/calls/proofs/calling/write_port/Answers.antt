use Rattle.std.proofs.Common.{◌∙◌, ap, sym}
use Rattle.turn.specs.Turn.{taken}
use Rattle.turn.proofs.Turn.{write-is}
use Rattle.calls.proofs.calling.write_port.Goals as goal

pub returns : goal.returns
returns c =
    let a = c.args in
    c.take.ensures ∙ ap (λ t. taken a.b t a.events.now a.place) c.write_turn-turn.ensures.0 ∙ sym (write-is a.b a.events.now a.place a.port a.byte)
