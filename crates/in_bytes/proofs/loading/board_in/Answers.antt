use Rattle.board_encoding.specs.Loaded.{board_in}
use Rattle.in_bytes.proofs.loading.board_in.Goals as goal

pub returns : goal.returns
unfolding board_in
returns c = simp (c.defer_in.ensures, c.divisor_in.ensures, c.owed_in.ensures, c.warp_in.ensures, c.remainder_in.ensures, c.model_in.ensures, c.channels_in.ensures)
