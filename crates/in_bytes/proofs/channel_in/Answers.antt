use Rattle.std.proofs.Common.{◌≡◌, ◌∙◌, ◌+◌, ◌*◌, ◌-◌, arith}
use Rattle.encoding.specs.Stored.{channel_size}
use Rattle.encoding.proofs.Inner.{record-in}
use Rattle.board_encoding.specs.Loaded.{record_part}
use Rattle.board_encoding.proofs.Only.{part_length}
use Rattle.in_bytes.proofs.Standing.{found}
use Rattle.in_bytes.proofs.channel_in.Goals as goal

pub returns : goal.returns
returns c =
    let bytes = c.args.bytes.now in
    let n = c.args.n in
    let size : channel_size * n + channel_size - channel_size * n ≡ channel_size = omega arith in
    let there = part_length bytes c.requires.holds_board.long n c.requires.n_bound in
    c.record_in.ensures ∙ rw size (record-in (record_part bytes n) (omega arith) ∙ found bytes n c.requires.n_bound)
