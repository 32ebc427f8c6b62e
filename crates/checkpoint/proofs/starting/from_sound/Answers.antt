use Prim.Native.Nat.{◌+◌, ◌*◌, ◌≤◌, ◌<◌}
use mathlib.Core.Bool.{true}
use mathlib.Core.Path.{◌≡◌, sym, ap, ◌∙◌}
use native.Mathlib.Omega.{arith}
use Rattle.board_encoding.specs.Loaded.{board_readable}
use Rattle.in_bytes.specs.Inner.{board_found}
use Rattle.trace.specs.Answer.{fault_of}
use Rattle.trace.specs.Section.{checkpoint_place}
use Rattle.checkpoint.specs.Boards.{operations_to, checkpoint_bytes, checkpoints_in}
use Rattle.checkpoint.specs.Inner.{Standing}
use Rattle.checkpoint.proofs.Sections.{standing}
use Rattle.checkpoint.proofs.From.{part-board, part_at, board-there, begins, from-refused, from-readable}
use Rattle.checkpoint.proofs.starting.from_sound.Goals as goal

pub returns-in-Err : goal.returns-in-Err
returns-in-Err c =
    let a = c.args in
    c.say_fault.ensures ∙ from-refused a.trace.now a.head a.k a.out.now (fault_of c.in-Err.fault) (sym c.in-Err.ensures)

pub slice_bounds-load_board-end : goal.slice_bounds-load_board-end
slice_bounds-load_board-end c =
    let bytes = c.args.trace.now in
    let n = c.args.head.operations in
    let k = c.args.k in
    let there : (k < checkpoints_in bytes n) × (board_readable (checkpoint_bytes bytes n k) ≡ true) = begins bytes n k (sym c.in-Ok.ensures) in
    let stands : Standing bytes n (checkpoints_in bytes n) = standing bytes n c.requires in
    let few : operations_to k ≤ n = omega (arith, there.0, stands.few) in
    omega (arith, c.checkpoint_place-place.ensures, stands.whole k there.0)

pub overflow_mul-first : goal.overflow_mul-first
overflow_mul-first c =
    let bytes = c.args.trace.now in
    let n = c.args.head.operations in
    let k = c.args.k in
    let there : (k < checkpoints_in bytes n) × (board_readable (checkpoint_bytes bytes n k) ≡ true) = begins bytes n k (sym c.in-Ok.ensures) in
    let stands : Standing bytes n (checkpoints_in bytes n) = standing bytes n c.requires in
    let few : operations_to k ≤ n = omega (arith, there.0, stands.few) in
    omega (arith, few)

pub overflow_add-first : goal.overflow_add-first
overflow_add-first c =
    let bytes = c.args.trace.now in
    let n = c.args.head.operations in
    let k = c.args.k in
    let there : (k < checkpoints_in bytes n) × (board_readable (checkpoint_bytes bytes n k) ≡ true) = begins bytes n k (sym c.in-Ok.ensures) in
    let stands : Standing bytes n (checkpoints_in bytes n) = standing bytes n c.requires in
    let few : operations_to k ≤ n = omega (arith, there.0, stands.few) in
    omega (arith, few)

pub lines_from-requires : goal.lines_from-requires
lines_from-requires c =
    let bytes = c.args.trace.now in
    let n = c.args.head.operations in
    let k = c.args.k in
    let there : (k < checkpoints_in bytes n) × (board_readable (checkpoint_bytes bytes n k) ≡ true) = begins bytes n k (sym c.in-Ok.ensures) in
    let stands : Standing bytes n (checkpoints_in bytes n) = standing bytes n c.requires in
    let few : operations_to k ≤ n = omega (arith, there.0, stands.few) in
    omega (arith, few)

pub returns-in-Ok : goal.returns-in-Ok
returns-in-Ok c =
    let bytes = c.args.trace.now in
    let n = c.args.head.operations in
    let k = c.args.k in
    let there : (k < checkpoints_in bytes n) × (board_readable (checkpoint_bytes bytes n k) ≡ true) = begins bytes n k (sym c.in-Ok.ensures) in
    let stands : Standing bytes n (checkpoints_in bytes n) = standing bytes n c.requires in
    let few : operations_to k ≤ n = omega (arith, there.0, stands.few) in
    let is = part-board bytes (checkpoint_place n k) (stands.whole k there.0) ∙ there.1 in
    let first : 256 * k + 256 ≡ operations_to k = omega arith in
    c.lines_from.ensures
    ∙ from-readable bytes c.args.head k c.args.out.now there.0 there.1 few c.load_board-board.result
    (c.load_board-board.ensures ∙ ap board_found (part_at bytes n k _ c.checkpoint_place-place.ensures) ∙ board-there (checkpoint_bytes bytes n k) is) (256 * k + 256) first
