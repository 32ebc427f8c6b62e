-- Demand 3 and what goes with it (specs/Promise.antt). Assumes nothing.
use Prim.Native.Nat.{ℕ, ◌<◌, ◌≤◌}
use mathlib.Core.Bool.{Bool, true, false}
use mathlib.Core.Path.{◌≡◌, refl, sym, ap, ◌∙◌}
use native.Mathlib.Omega.{arith}
use lib.Dec.{eqb, ltb}
use lib.ListN.{length-set}
use borrow.Author.Tests.{eq-eqb, eqb-true, ltb-false}
use Rattle.refusal.specs.Reply.{Reply, refused, accepted}
use Rattle.refusal.proofs.Apart.{refused-not}
use Rattle.channel.proofs.Pick.{pick-knowing}
use Rattle.board.specs.declared.Board.{Board}
use Rattle.board.specs.Board.{channel_at, with_channel}
use Rattle.board.proofs.Channels.{put-found, not-above}
use Rattle.step.specs.Step.{steps}
use Rattle.reading.specs.Beginning.{may_begin, Begins}
use Rattle.reading.specs.Counts.{counts_on}
use Rattle.reading.specs.Reading.{first_reply, second_reply, counts_made}
use Rattle.reading.specs.Spelling.{remaining}
use Rattle.reading.specs.Word.{read_word}
use Rattle.reading.specs.ReadCount.{CountOutcome, count_taken, not_read, read_count}
use Rattle.reading.specs.Promise.{ReadsTheCount, NeverAlike, BeginsAgain, CountsThenReads, AsThreeCalls, ReadsAndBegins}
use Rattle.reading.proofs.Spelling.{left-apart, spelled-once}
use Rattle.reading.proofs.Stands.{Stands}
use Rattle.reading.proofs.Latched.{spells}
use Rattle.reading.proofs.Reading as steps_of
use Rattle.reading.proofs.ThreeCalls.{word_may, word_stands, latch-taken, three-calls, three-hold}
use Rattle.reading.proofs.After.{begins-after}

pub reads-the-count : ReadsTheCount
reads-the-count b i bcd v calls reading = spells (steps_of.holding reading)

pub never-alike : NeverAlike
never-alike bcd v b i calls reading c j others other few fewer differ x y first second third fourth =
    differ
    (left-apart bcd v (counts_made b i calls) (counts_made c j others) few fewer
    (spelled-once _ _ (first_reply b i calls) (second_reply b i calls) (first_reply c j others) (second_reply c j others) (spells (steps_of.holding reading)) (spells (steps_of.holding other)) x y first second third fourth))

pub begins-again : BeginsAgain
begins-again b i bcd v calls reading later = steps_of.begins-again reading later

-- `read_count` where a reading may begin
begins-reply : (b : Board) (i : ℕ) (bcd : Bool) (v : ℕ) → Begins b i bcd v → b.owed.0 ≡ 0 → (read_count b i).reply ≡ accepted v
unfolding read_count
begins-reply b i bcd v begins none = simp (not-above i begins.on-board, eq-eqb _ _ none, begins.may, begins.element)

pub counts-then-reads : CountsThenReads
counts-then-reads b i bcd v begins os may unloaded none =
    begins-reply (steps b os) i bcd (remaining bcd v (counts_on i b os)) (begins-after b i bcd v begins os may unloaded) none

begins-board : (b : Board) (i : ℕ) → i < 3 → b.owed.0 ≡ 0 → may_begin (channel_at b i) ≡ true → (read_count b i).board ≡ with_channel b i (read_word (channel_at b i)).channel
unfolding read_count
begins-board b i on none may = simp (not-above i on, eq-eqb _ _ none, may)

-- where `read_count` answers a count, none of its refusals was due
record Answers (b : Board) (i e : ℕ) : Type 0 where
  on-board : i < 3
  none-owed : b.owed.0 ≡ 0
  may : may_begin (channel_at b i) ≡ true
  element : (channel_at b i).counter.counting_element ≡ e

abbrev count_in : Reply ℕ → ℕ
count_in (refused number) = 0
count_in (accepted e) = e

answers : (b : Board) (i e : ℕ) → (read_count b i).reply ≡ accepted e → Answers b i e
unfolding read_count
answers b i e =
    let Q : CountOutcome → Type 0 = λ o. o.reply ≡ accepted e → Answers b i e in
    pick-knowing Q (ltb 2 i) (not_read 2 b) _ (λ above took. absurd (refused-not 2 e took))
    (λ below.
    pick-knowing Q (eqb b.owed.0 0) _ (not_read 16 b)
    (λ none.
    pick-knowing Q (may_begin (channel_at b i)) (count_taken b i) (not_read 201 b)
    (λ may took.
    record {
      on-board = let h : i ≤ 2 = ltb-false _ _ below in omega arith;
      none-owed = eqb-true _ _ none;
      may = may;
      element = ap count_in took;
    })
    (λ held took. absurd (refused-not 201 e took)))
    (λ owes took. absurd (refused-not 16 e took)))

pub as-three-calls : AsThreeCalls
as-three-calls b i e three answered =
    let a : Answers b i e = answers b i e answered in (
      latch-taken b a.none-owed i a.on-board,
      rw a.element at (spells (three-hold b a.none-owed i a.on-board three a.may)),
      begins-board b i a.on-board a.none-owed a.may ∙ sym (three-calls b a.none-owed i a.on-board three),
    )

read-begins : (b : Board) (i : ℕ) (bcd : Bool) (v : ℕ) → Begins b i bcd v → b.owed.0 ≡ 0 → Begins (read_count b i).board i bcd v
read-begins b i bcd v begins none =
    let c = channel_at b i in
    let found : channel_at (with_channel b i (read_word c).channel) i ≡ (read_word c).channel = put-found b begins.three-channels i begins.on-board _ in
    let s : Stands bcd v (read_word c).channel = word_stands c (record { in-radix = begins.radix; at = begins.element }) in
    rw (begins-board b i begins.on-board none begins.may)
    (record {
      on-board = begins.on-board;
      may = rw found (word_may c begins.may);
      radix = rw found s.in-radix;
      element = rw found s.at;
      four-digits = begins.four-digits;
      three-channels = length-set b.channels i _ ∙ begins.three-channels;
      sixteen-bits = begins.sixteen-bits;
    })

-- while ticks are owed nothing is done
owed-stays : (b : Board) (i : ℕ) → i < 3 → eqb b.owed.0 0 ≡ false → (read_count b i).board ≡ b
unfolding read_count
owed-stays b i on some = simp (not-above i on, some)

either_way : {A : Type 0} (test : Bool) → (test ≡ true → A) → (test ≡ false → A) → A
either_way true holds fails = holds refl
either_way false holds fails = fails refl

pub reads-and-begins : ReadsAndBegins
reads-and-begins b i bcd v begins =
    either_way (eqb b.owed.0 0) (λ none. read-begins b i bcd v begins (eqb-true _ _ none))
    (λ some. rw (owed-stays b i begins.on-board some) begins)
