use Rattle.runner.proofs.Loop.{told-board}
use Rattle.checkpoint.proofs.board_after.Goals as goal

pub returns : goal.returns
returns c = told-board c.tell-told.ensures
