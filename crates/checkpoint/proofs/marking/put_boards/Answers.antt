use Rattle.std.proofs.Common.{ℕ, ◌+◌, ◌-◌, ◌*◌, ◌≡◌, ◌∙◌, List, refl, sym, ap, arith}
use Rattle.board.specs.Outcome.{Outcome}
use Rattle.text.specs.Put.{put}
use Rattle.text.proofs.Puts.{put-length}
use Rattle.recorded.specs.Made.{make_all}
use Rattle.runner.specs.Inner.{found_from}
use Rattle.runner.proofs.Loop.{put-nothing}
use Rattle.runner.proofs.Whole.{new-board}
use Rattle.checkpoint.specs.Boards.{boards_from}
use Rattle.checkpoint.specs.Inner.{trace_found, board_next, boards_rest}
use Rattle.checkpoint.proofs.Rest.{room_after, boards-go-on, rest-boards}
use Rattle.checkpoint.proofs.marking.put_boards.Goals as goal

pub loop-k-init : goal.loop-k-init
loop-k-init c =
    let a = c.args in
    let all : a.number - 0 ≡ a.number = omega arith in
    record {
      same = ap (λ (left : ℕ). put (boards_rest a.trace.now c.new.result.board 0 left) a.out.now a.place) all;
      room = omega (arith, c.requires.number_in_bounds);
      long = refl;
    }

pub overflow_mul-first : goal.overflow_mul-first
overflow_mul-first c = omega (arith, c.loop-k-test.true, c.requires.number_bound)

pub loop-k-preserved : goal.loop-k-preserved
loop-k-preserved c =
    let a = c.args in
    let l = c.loop-k in
    let size : 256 * l.k + 256 - 256 * l.k ≡ 256 = omega arith in
    let made : c.board_after-board.result ≡ board_next a.trace.now l.board l.k
    = c.board_after-board.ensures ∙ ap (λ (n : ℕ). make_all l.board (found_from a.trace.now (256 * l.k) n)) size in
    let text = c.put-at.ensures ∙ ap (λ (text : List ℕ). put text l.out l.at) c.board_bytes-bytes.ensures in
    record {
      same = boards-go-on a.trace.now l.board c.board_after-board.result l.k a.number c.loop-k-test.true made l.out l.at _ _ text l.invariant.room ∙ l.invariant.same;
      room = room_after a.trace.now l.board c.board_after-board.result l.k a.number c.loop-k-test.true made l.out l.at _ _ text l.invariant.room;
      long = put-length _ l.out l.at _ _ text ∙ l.invariant.long;
    }

pub returns : goal.returns
returns c =
    let l = c.loop-k in
    let a = c.args in
    let none : a.number - l.k ≡ 0 = omega (arith, c.loop-k-test.false) in
    let board = ap (λ (o : Outcome). o.board) c.new.ensures ∙ new-board a.head.model a.head.divisor in
    let all : boards_rest a.trace.now c.new.result.board 0 a.number ≡ boards_from (trace_found a.trace.now a.head) 0 a.number
    = rw board (rest-boards a.trace.now a.head 0 a.number (omega (arith, c.requires.number_bound))) in
    sym (put-nothing l.out l.at)
    ∙ ap (λ (left : ℕ). put (boards_rest a.trace.now l.board l.k left) l.out l.at) (sym none)
    ∙ l.invariant.same
    ∙ ap (λ (text : List ℕ). put text a.out.now a.place) all
