use Rattle.checkpoint_limits.proofs.Marked.{marked-made}
use Rattle.checkpoint_limits.proofs.making.put_marked.Goals as goal

pub returns : goal.returns
returns c =
    marked-made c.args.source.now c.args.out.now c.args.operations _ _ _ _ _ _ c.mark_into.result
    c.blank-plain.ensures
    c.put_plain-end.ensures
    c.first.ensures
    c.mark_into.ensures
    c.written.ensures
