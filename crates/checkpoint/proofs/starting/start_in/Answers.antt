use Prim.Native.Nat.{◌<◌}
use mathlib.Core.Path.{◌≡◌, sym, ap, ◌∙◌}
use native.Mathlib.Omega.{arith}
use Rattle.board_encoding.specs.Loaded.{board_readable}
use Rattle.in_bytes.specs.Inner.{is_board}
use Rattle.std.specs.Prelude.{Err}
use Rattle.trace.specs.declared.Fault.{Fault}
use Rattle.trace.specs.Answer.{judged}
use Rattle.trace.specs.Judgement.{Judgement, refused_at}
use Rattle.trace.specs.Section.{checkpoint_place}
use Rattle.checkpoint.specs.Boards.{checkpoint_bytes, checkpoints_in}
use Rattle.checkpoint.specs.Inner.{Standing}
use Rattle.checkpoint.proofs.Sections.{standing}
use Rattle.checkpoint.proofs.From.{part-board, part_at, start-missing, start-unreadable, start-there}
use Rattle.checkpoint.proofs.starting.start_in.Goals as goal

abbrev judged_err : Fault → Judgement Unit
judged_err f = judged (Err f)

pub returns-then-checkpoints_in-k : goal.returns-then-checkpoints_in-k
returns-then-checkpoints_in-k c =
    let a = c.args in
    ap judged_err c.outside.ensures ∙ start-missing a.trace.now a.operations a.k (omega (arith, c.if-checkpoints_in-k.true, c.checkpoints_in.ensures))

pub slice_bounds-is_board-end : goal.slice_bounds-is_board-end
slice_bounds-is_board-end c =
    let bytes = c.args.trace.now in
    let n = c.args.operations in
    let k = c.args.k in
    let there : k < checkpoints_in bytes n = omega (arith, c.if-checkpoints_in-k.false, c.checkpoints_in.ensures) in
    let stands : Standing bytes n (checkpoints_in bytes n) = standing bytes n c.requires in
    omega (arith, c.checkpoint_place-place.ensures, stands.whole k there)

pub returns-then-is_board : goal.returns-then-is_board
returns-then-is_board c =
    let bytes = c.args.trace.now in
    let n = c.args.operations in
    let k = c.args.k in
    let there : k < checkpoints_in bytes n = omega (arith, c.if-checkpoints_in-k.false, c.checkpoints_in.ensures) in
    let stands : Standing bytes n (checkpoints_in bytes n) = standing bytes n c.requires in
    let told : c.is_board.result ≡ board_readable (checkpoint_bytes bytes n k)
    = c.is_board.ensures ∙ ap is_board (part_at bytes n k _ c.checkpoint_place-place.ensures)
    ∙ part-board bytes (checkpoint_place n k) (stands.whole k there) in
    start-there bytes n k there (sym told ∙ c.if-is_board.true)

pub returns : goal.returns
returns c =
    let bytes = c.args.trace.now in
    let n = c.args.operations in
    let k = c.args.k in
    let there : k < checkpoints_in bytes n = omega (arith, c.if-checkpoints_in-k.false, c.checkpoints_in.ensures) in
    let stands : Standing bytes n (checkpoints_in bytes n) = standing bytes n c.requires in
    let told : c.is_board.result ≡ board_readable (checkpoint_bytes bytes n k)
    = c.is_board.ensures ∙ ap is_board (part_at bytes n k _ c.checkpoint_place-place.ensures)
    ∙ part-board bytes (checkpoint_place n k) (stands.whole k there) in
    ap judged_err c.outside-2.ensures ∙ ap (refused_at 18) c.checkpoint_place-place.ensures
    ∙ start-unreadable bytes n k there (sym told ∙ c.if-is_board.false)
