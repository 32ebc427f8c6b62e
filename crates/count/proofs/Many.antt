-- That many single counts, put together at once: the counting element after that many steps, the output latch that followed it, and
-- `ticked`. The rest of the record is as it was. Assumes nothing.
use Rattle.std.proofs.Common.{◌≡◌, ℕ, zero, suc, Bool, true, false, refl}
use lib.Dec.{eqb-suc-zero}
use Rattle.numbers.specs.Times.{times}
use Rattle.channel.specs.declared.Channel.{Channel}
use Rattle.channel.specs.declared.Latch.{Latch}
use Rattle.channel.specs.Record.{with_counter, with_latch}
use Rattle.channel.specs.Shared.{followed, put_element}
use Rattle.count.specs.Step.{step_in}
use Rattle.count.specs.Count.{count}
use Rattle.count.specs.Inner.{followed_by, ticked_by}

-- the latch shows the last value only
follows-last : (b : Bool) (l : Latch) (e f : ℕ) → l.count_is_latched ≡ b → followed (followed l e) f ≡ followed l f
follows-last true l e f latched = simp latched
follows-last false l e f latched = simp latched

followed-last : (n : ℕ) (l : Latch) (e f : ℕ) → followed (followed_by n l e) f ≡ followed l f
followed-last zero l e f = refl
followed-last (suc n) l e f = simp (eqb-suc-zero n) (follows-last l.count_is_latched l e f refl)

abbrev element_by : ℕ → Channel → ℕ
element_by n c = times n (step_in c.control.bcd_mode) c.counter.counting_element

abbrev pub counted_by : ℕ → Channel → Channel
counted_by n c =
    with_latch
    (with_counter c
    (record {
      channel_state = c.counter.channel_state;
      cycles_in_state = c.counter.cycles_in_state;
      counting_element = element_by n c;
      ticked = ticked_by n c.counter.ticked;
    }))
    (followed_by n c.latch (element_by n c))

pub counted-at-once : (n : ℕ) (c : Channel) → times n count c ≡ counted_by n c
unfolding count put_element
counted-at-once zero c = refl
counted-at-once (suc n) c = rw (counted-at-once n c) (simp (followed-last n c.latch (element_by n c) (element_by (suc n) c), eqb-suc-zero n))
