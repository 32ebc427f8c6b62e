use Rattle.std.proofs.Common.{◌++◌, ◌∙◌, ap, take}
use Rattle.text.proofs.Rooms.{kept, put_text}
use Rattle.text.proofs.room.Text.push_part.Goals as goal

pub invariant_of-self : goal.invariant_of-self
invariant_of-self g c =
    let s = c.self in
    kept g.row.ROOM s.inside.len c.min-size.result _ s.inside.bytes c.args.text.now _ s.invariant.0 s.invariant.1 s.invariant.2 c.min-size.ensures c.put-self-inside.ensures

pub returns : goal.returns
returns g c =
    let s = c.self in
    put_text g.row.ROOM s.inside.len c.min-size.result _ s.inside.bytes c.args.text.now _ s.invariant.0 s.invariant.1 s.invariant.2 c.min-size.ensures c.put-self-inside.ensures
    ∙ ap (λ said. take g.row.ROOM (said ++ c.args.text.now)) s.view_is
