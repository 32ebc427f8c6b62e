use Rattle.std.proofs.Common.{sym, ◌∙◌, arith}
use Rattle.checkpoint_limits.proofs.Operations.{goes-on, none_left}
use Rattle.checkpoint_limits.proofs.making.put_operations.Goals as goal

pub loop-place-preserved : goal.loop-place-preserved
loop-place-preserved c =
    goes-on _ c.loop-place.out c.loop-place.place _ (omega arith) _ c.byte_at.ensures _ c.put_byte.ensures
    ∙ c.loop-place.invariant

pub returns : goal.returns
returns c = sym (none_left _ c.loop-place.out c.loop-place.place _ (omega arith)) ∙ c.loop-place.invariant
