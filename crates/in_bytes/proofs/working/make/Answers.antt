use Rattle.std.proofs.Common.{ℕ, ◌<◌, get_or, ◌∙◌, sym, ap, not, nat_eq, rules}
use Rattle.board_encoding.specs.Loaded.{board_in}
use Rattle.in_bytes.specs.Inner.{part_of, parted_or, told, written, operated}
use Rattle.in_bytes.proofs.Part.{part-made}
use Rattle.in_bytes.proofs.Standing.{kept}
use Rattle.in_bytes.proofs.working.make.Goals as goal

pub returns-in-Ok : goal.returns-in-Ok
returns-in-Ok c =
    let a = c.args in
    let board = board_in a.bytes.now in
    let part = c.in-Ok.ensures.0 ∙ (λ i. part_of (not (nat_eq (c.owed_in-owed.ensures i).0 0)) (c.model_in.ensures i) a.operation) in
    c.part_in.ensures
    ∙ ap (λ p. written (parted_or board p a.events.now a.place) a.bytes.now) part
    ∙ ap (λ o. operated o a.bytes.now) (sym (part-made board a.operation a.events.now a.place))

pub returns-in-Err : goal.returns-in-Err
returns-in-Err c =
    let a = c.args in
    let board = board_in a.bytes.now in
    let part = c.in-Err.ensures.0 ∙ (λ i. part_of (not (nat_eq (c.owed_in-owed.ensures i).0 0)) (c.model_in.ensures i) a.operation) in
    let all : (p : ℕ) → get_or a.bytes.now p 0 < 256 = search rules in
    let same = kept a.bytes.now all c.requires in
    (λ i. told (c.numbers_of.ensures i) (sym same i) a.events.now)
    ∙ ap (λ p. written (parted_or board p a.events.now a.place) a.bytes.now) part
    ∙ ap (λ o. operated o a.bytes.now) (sym (part-made board a.operation a.events.now a.place))
