-- Where the code may begin, the word that it reads is the counting element.
use Rattle.std.proofs.Common.{◌≡◌, true, ◌∙◌, sym, ap}
use borrow.Author.Tests.{lt-ltb, le-ltb, eq-eqb, ne_eqb}
use Rattle.board.specs.Board.{channel_at}
use Rattle.reading.specs.Beginning.{may_begin}
use Rattle.reading.specs.ReadCount.{read_count}
use Rattle.reading.specs.Word.{WordRead}
use Rattle.reading.proofs.ThreeCalls.{word-is-element}
use Rattle.reading.proofs.take_count.Goals as goal

pub returns-then-channel-gt2 : goal.returns-then-channel-gt2
unfolding read_count
returns-then-channel-gt2 c = simp (lt-ltb _ _ c.if-channel-gt2.true)

pub returns-then-b-ne0 : goal.returns-then-b-ne0
unfolding read_count
returns-then-b-ne0 c = simp (ne_eqb _ _ c.if-b-ne0.true, le-ltb _ _ c.if-channel-gt2.false)

pub returns-then-not-may_begin : goal.returns-then-not-may_begin
unfolding read_count
returns-then-not-may_begin c = simp (sym c.may_begin.ensures ∙ c.if-not-may_begin.true, eq-eqb _ _ c.if-b-ne0.false, le-ltb _ _ c.if-channel-gt2.false)

pub returns : goal.returns
unfolding read_count
returns c =
    let a = c.args in
    let may : may_begin (channel_at a.b.now a.channel) ≡ true = sym c.may_begin.ensures ∙ c.if-not-may_begin.false in
    let word = ap (λ (r : WordRead). r.word) c.read_word.ensures in
    let left = ap (λ (r : WordRead). r.channel) c.read_word.ensures in
    simp (word, left, word-is-element (channel_at a.b.now a.channel) may, may, eq-eqb _ _ c.if-b-ne0.false, le-ltb _ _ c.if-channel-gt2.false)
