use Rattle.std.proofs.Common.{ℕ, ◌<◌, get_or, ◌∙◌, sym, ap, Ok, rules}
use Rattle.board.specs.declared.Answer.TheVariants.{Done}
use Rattle.turn.specs.Turn.{turned}
use Rattle.board_encoding.specs.Loaded.{board_in}
use Rattle.in_bytes.proofs.Standing.{kept}
use Rattle.in_bytes.specs.Inner.{said, written}
use Rattle.in_bytes.proofs.working.turn_in.Goals as goal

pub returns-in-Elapse : goal.returns-in-Elapse
returns-in-Elapse c =
    let a = c.args in
    c.elapse.ensures a.events.now a.place ∙ ap (λ t. written (turned (board_in a.bytes.now) t a.events.now a.place) a.bytes.now) (sym c.in-Elapse.is)

pub returns-in-Reset : goal.returns-in-Reset
returns-in-Reset c =
    let a = c.args in
    ap (λ l. said (Ok Done) l a.events.now) c.reset.ensures
    ∙ ap (λ t. written (turned (board_in a.bytes.now) t a.events.now a.place) a.bytes.now) (sym c.in-Reset.is)

pub returns-in-Untouched : goal.returns-in-Untouched
returns-in-Untouched c =
    let a = c.args in
    let all : (p : ℕ) → get_or a.bytes.now p 0 < 256 = search rules in
    let same = kept a.bytes.now all c.requires.holds_board in
    ap (λ l. said c.untouched.result l c.untouched.new.events) (sym same)
    ∙ ap (λ o. written o a.bytes.now) (c.untouched.ensures (board_in a.bytes.now))
    ∙ ap (λ t. written (turned (board_in a.bytes.now) t a.events.now a.place) a.bytes.now) (sym c.in-Untouched.is)

pub returns-in-Say : goal.returns-in-Say
returns-in-Say c =
    let a = c.args in
    let all : (p : ℕ) → get_or a.bytes.now p 0 < 256 = search rules in
    let same = kept a.bytes.now all c.requires.holds_board in
    ap (λ l. said (Ok c.in-Say.answer) l a.events.now) (sym same)
    ∙ ap (λ t. written (turned (board_in a.bytes.now) t a.events.now a.place) a.bytes.now) (sym c.in-Say.is)
