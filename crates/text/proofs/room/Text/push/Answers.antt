use Rattle.std.proofs.Common.{◌++◌, ◌∙◌, ap, take, arith}
use Rattle.text.proofs.Rooms.{kept_whole, put_whole}
use Rattle.text.proofs.room.Text.push.Goals as goal

pub invariant_of-self : goal.invariant_of-self
invariant_of-self g c =
    let s = c.self in
    kept_whole g.row.ROOM s.inside.len _ s.inside.bytes c.args.text.now _ s.invariant.0 s.invariant.1 s.invariant.2 (omega (arith, c.if-text-self.true)) c.put-self-inside.ensures

pub returns-then-text-self : goal.returns-then-text-self
returns-then-text-self g c =
    let s = c.self in
    put_whole g.row.ROOM s.inside.len _ s.inside.bytes c.args.text.now _ s.invariant.0 s.invariant.1 s.invariant.2 (omega (arith, c.if-text-self.true)) c.put-self-inside.ensures
    ∙ ap (λ said. take g.row.ROOM (said ++ c.args.text.now)) s.view_is
