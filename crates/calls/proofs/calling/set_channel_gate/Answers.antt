use Rattle.std.proofs.Common.{◌∙◌, ap, sym}
use Rattle.turn.specs.Turn.{taken}
use Rattle.turn.proofs.Turn.{gate-is}
use Rattle.calls.proofs.calling.set_channel_gate.Goals as goal

pub returns : goal.returns
returns c =
    let a = c.args in
    c.take.ensures ∙ ap (λ t. taken a.b t a.events.now a.place) c.gate_turn-turn.ensures.0 ∙ sym (gate-is a.b a.events.now a.place a.channel a.level)
