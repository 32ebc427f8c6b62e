use Rattle.std.proofs.Common.{ℕ, ◌<◌, get_or, ◌∙◌, sym, ap, rules}
use Rattle.time.specs.declared.SystemTicks.{SystemTicks}
use Rattle.board_encoding.specs.Loaded.{board_in}
use Rattle.board_operation.specs.Made.{numbered}
use Rattle.in_bytes.specs.Inner.{parted, told, written}
use Rattle.in_bytes.proofs.Standing.{kept}
use Rattle.in_bytes.proofs.working.part_in.Goals as goal

pub returns-in-Turned : goal.returns-in-Turned
returns-in-Turned c =
    let a = c.args in
    ap (λ n. told n c.turn_in.new.bytes c.turn_in.new.events) c.numbers_of.ensures
    ∙ c.turn_in.ensures
    ∙ ap (λ p. written (parted (board_in a.bytes.now) p a.events.now a.place) a.bytes.now) (sym c.in-Turned.is)

pub returns-in-Ask : goal.returns-in-Ask
returns-in-Ask c =
    let a = c.args in
    ap (λ n. told n c.ask.new.bytes a.events.now) c.numbers_of-in-Ask.ensures
    ∙ c.ask.ensures a.events.now
    ∙ ap (λ p. written (parted (board_in a.bytes.now) p a.events.now a.place) a.bytes.now) (sym c.in-Ask.is)

pub returns-in-TimerAccum : goal.returns-in-TimerAccum
returns-in-TimerAccum c =
    let a = c.args in
    let all : (p : ℕ) → get_or a.bytes.now p 0 < 256 = search rules in
    let same = kept a.bytes.now all c.requires.holds_board in
    (λ i. told ((c.saying.ensures ∙ ap (λ n. numbered 0 n 0 0) c.from.ensures ∙ ap (λ (t : SystemTicks). numbered 0 t.0 0 0) c.remainder_in.ensures) i) (sym same i) a.events.now)
    ∙ ap (λ p. written (parted (board_in a.bytes.now) p a.events.now a.place) a.bytes.now) (sym c.in-TimerAccum.is)
