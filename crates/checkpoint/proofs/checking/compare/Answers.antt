use Rattle.std.proofs.Common.{ℕ, ◌+◌, ◌-◌, ◌*◌, ◌≡◌, ◌∙◌, sym, ap, arith}
use Rattle.std.specs.Prelude.{Err}
use Rattle.board.specs.Outcome.{Outcome}
use Rattle.trace.specs.declared.Fault.{Fault}
use Rattle.trace.specs.Answer.{judged}
use Rattle.trace.specs.Judgement.{Judgement, sound, and_then}
use Rattle.runner.proofs.Whole.{new-board}
use Rattle.recorded.specs.Made.{make_all}
use Rattle.runner.specs.Inner.{found_from}
use Rattle.checkpoint.specs.Check.{check_from}
use Rattle.checkpoint.specs.Inner.{trace_found, board_next, check_rest}
use Rattle.checkpoint.proofs.Rest.{stops, goes-on, none_left, rest-checks}
use Rattle.checkpoint.proofs.checking.compare.Goals as goal

pub loop-k-init : goal.loop-k-init
loop-k-init c =
    let a = c.args in
    let all : a.number - 0 ≡ a.number = omega arith in
    ap (λ (left : ℕ). check_rest a.trace.now a.head.operations c.new.result.board 0 left) all

pub overflow_mul-first : goal.overflow_mul-first
overflow_mul-first c = omega (arith, c.loop-k-test.true, c.requires.few)

pub differs-requires : goal.differs-requires
differs-requires c = rw c.checkpoint_place-place.ensures (c.requires.whole c.loop-k.k c.loop-k-test.true)

-- the board that is compared is the one after the next 256 operations; and all checkpoints, from the fresh board on
pub returns-then-differs : goal.returns-then-differs
returns-then-differs c =
    let a = c.args in
    let l = c.loop-k in
    let size : 256 * l.k + 256 - 256 * l.k ≡ 256 = omega arith in
    let made : c.board_after-board.result ≡ board_next a.trace.now l.board l.k
    = c.board_after-board.ensures ∙ ap (λ (n : ℕ). make_all l.board (found_from a.trace.now (256 * l.k) n)) size in
    let board = ap (λ (o : Outcome). o.board) c.new.ensures ∙ new-board a.head.model a.head.divisor in
    let all : check_rest a.trace.now a.head.operations c.new.result.board 0 a.number ≡ check_from a.trace.now (trace_found a.trace.now a.head) 0 a.number
    = rw board (rest-checks a.trace.now a.head 0 a.number (omega (arith, c.requires.few))) in
    let found = stops a.trace.now a.head.operations l.board c.board_after-board.result l.k a.number c.checkpoint_place-place.result c.loop-k-test.true made c.checkpoint_place-place.ensures (sym c.differs.ensures ∙ c.if-differs.true) in
    ap (λ (f : Fault). judged (Err f)) c.outside.ensures ∙ ap (λ (j : Judgement Unit). and_then j (λ all. sound a.number)) (sym found ∙ l.invariant ∙ all)

pub loop-k-preserved : goal.loop-k-preserved
loop-k-preserved c =
    let a = c.args in
    let l = c.loop-k in
    let size : 256 * l.k + 256 - 256 * l.k ≡ 256 = omega arith in
    let made : c.board_after-board.result ≡ board_next a.trace.now l.board l.k
    = c.board_after-board.ensures ∙ ap (λ (n : ℕ). make_all l.board (found_from a.trace.now (256 * l.k) n)) size in
    goes-on a.trace.now a.head.operations l.board c.board_after-board.result l.k a.number c.checkpoint_place-place.result c.loop-k-test.true made c.checkpoint_place-place.ensures (sym c.differs.ensures ∙ c.if-differs.false)
    ∙ l.invariant

pub returns : goal.returns
returns c =
    let a = c.args in
    let l = c.loop-k in
    let board = ap (λ (o : Outcome). o.board) c.new.ensures ∙ new-board a.head.model a.head.divisor in
    let all : check_rest a.trace.now a.head.operations c.new.result.board 0 a.number ≡ check_from a.trace.now (trace_found a.trace.now a.head) 0 a.number
    = rw board (rest-checks a.trace.now a.head 0 a.number (omega (arith, c.requires.few))) in
    ap (λ (j : Judgement Unit). and_then j (λ all. sound a.number))
    (sym (none_left a.trace.now a.head.operations l.board l.k a.number c.loop-k-test.false) ∙ l.invariant ∙ all)
