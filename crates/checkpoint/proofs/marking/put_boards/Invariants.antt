use Rattle.std.proofs.Common.{◌+◌, ◌-◌, ◌*◌, ◌≡◌, ◌≤◌, length}
use Rattle.board_encoding.specs.Places.{board_size}
use Rattle.text.specs.Put.{put}
use Rattle.checkpoint.specs.Inner.{boards_rest}
use Rattle.checkpoint.proofs.marking.put_boards.Given as goal

-- what is left to put decides
abbrev pub invariant-loop-k : goal.invariant-loop-k
invariant-loop-k l = record {
  same : put (boards_rest l.trace l.board l.k (l.number - l.k)) l.out l.at ≡ put (boards_rest l.trace l.initial.board 0 l.number) l.initial.out l.place;
  room : l.at + board_size * (l.number - l.k) ≤ length l.out;
  long : length l.out ≡ length l.initial.out;
}
