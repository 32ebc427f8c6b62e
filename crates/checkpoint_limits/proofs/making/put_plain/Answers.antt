use Rattle.checkpoint_limits.proofs.Operations.{plain-made}
use Rattle.checkpoint_limits.proofs.making.put_plain.Goals as goal

pub returns : goal.returns
returns c = plain-made _ _ _ _ _ _ _ _ c.put.ensures c.put_number.ensures c.end_of-end.ensures c.put_operations.ensures
