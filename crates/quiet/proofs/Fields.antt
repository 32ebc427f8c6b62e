-- The fields that quiet ticks move: how many counts the ticks take, and that the fields after them, put where they stand, make the record after them.
-- Assumes nothing.
use Prim.Native.Nat.{ℕ, zero, suc, ◌+◌, ◌*◌, ◌%◌, ◌≤◌}
use mathlib.Core.Bool.{Bool, true, false, cond}
use mathlib.Core.Path.{◌≡◌, refl, sym, ◌∙◌}
use native.Mathlib.Nat.{mul-one, zero-mul, mul-le-mul_left}
use native.Mathlib.Omega.{arith}
use lib.Dec.{eqb}
use borrow.Author.Tests.{ne_eqb}
use Rattle.numbers.specs.Times.{times}
use Rattle.numbers.proofs.Times.{times-add}
use Rattle.channel.specs.declared.Channel.{Channel}
use Rattle.channel.specs.declared.ChannelMode.{ChannelMode}
use Rattle.channel.specs.declared.Latch.{Latch}
use Rattle.channel.specs.Modes.{by_mode}
use Rattle.channel.specs.Shared.{followed}
use Rattle.channel.proofs.Modes.{every-mode}
use Rattle.channel.proofs.Pick.{pick-holds}
use Rattle.count.specs.Step.{step_in}
use Rattle.count.specs.Count.{count}
use Rattle.count.specs.Inner.{followed_by, ticked_by}
use Rattle.count.proofs.Many.{counted-at-once}
use Rattle.tick.specs.Taken.{square_takes, takes}
use Rattle.tick.specs.Tick.{older, aged_by}
use Rattle.quiet.specs.Inner.{Moved, standing, with_skipped}

square-few : (even high : Bool) → (1 ≤ cond even 2 (cond high 1 3)) × (cond even 2 (cond high 1 3) ≤ 3)
square-few true high = (omega arith, omega arith)
square-few false true = (omega arith, omega arith)
square-few false false = (omega arith, omega arith)

pub takes-few : (c : Channel) → (1 ≤ takes c) × (takes c ≤ 3)
takes-few c =
    every-mode
    (λ (m : ChannelMode). let t = by_mode 1 1 1 (square_takes c.pins.output c.counter.counting_element) 1 1 m in (1 ≤ t) × (t ≤ 3))
    (omega arith, omega arith) (omega arith, omega arith) (omega arith, omega arith)
    (square-few (eqb (c.counter.counting_element % 2) 0) c.pins.output)
    (omega arith, omega arith) (omega arith, omega arith) c.control.mode

-- the counts of some ticks, made in equal parts
module _ (bcd : Bool) (ticks e : ℕ) where
  pub once : times (ticks * 1) (step_in bcd) e ≡ times ticks (step_in bcd) e
  once = rw (mul-one ticks)

  pub twice : times (ticks * 2) (step_in bcd) e ≡ times ticks (step_in bcd) (times ticks (step_in bcd) e)
  twice = let is : ticks * 2 ≡ ticks + ticks = omega arith in rw is (times-add ticks ticks (step_in bcd) e)

  pub thrice : times (ticks * 3) (step_in bcd) e ≡ times ticks (step_in bcd) (times ticks (step_in bcd) (times ticks (step_in bcd) e))
  thrice =
      let is : ticks * 3 ≡ ticks + (ticks + ticks) = omega arith in
      rw (is, times-add ticks (ticks + ticks) (step_in bcd) e, times-add ticks ticks (step_in bcd) e)

-- none are made only where there are no ticks
none_made : (ticks each : ℕ) → 1 ≤ each → eqb (ticks * each) 0 ≡ eqb ticks 0
none_made zero each some = rw (zero-mul each)
none_made (suc k) each some =
    ne_eqb (suc k * each) 0 (λ none. omega (arith, mul-le-mul_left (suc k) some)) ∙ sym (ne_eqb (suc k) 0 (λ none. omega arith))

-- a latch that follows changes in one field only
abbrev latch_with : Latch → ℕ → Latch
latch_with l e = record { output_latch = e; count_is_latched = l.count_is_latched; read_state = l.read_state }

follows-in-place : (n : ℕ) (l : Latch) (e : ℕ) → latch_with l (followed_by n l e).output_latch ≡ followed_by n l e
follows-in-place n l e =
    let P : Latch → Type 0 = λ (m : Latch). latch_with l m.output_latch ≡ m in
    pick-holds P (eqb n 0) l (followed l e) refl (pick-holds P l.count_is_latched l (latch_with l e) refl refl)

pub aged-in-place : (ticks : ℕ) (c : Channel) → with_skipped c (standing c (older ticks c.counter.cycles_in_state)) ≡ aged_by ticks c
unfolding aged_by
aged-in-place ticks c = refl

abbrev element_after : ℕ → Channel → ℕ
element_after ticks c = times (ticks * takes c) (step_in c.control.bcd_mode) c.counter.counting_element

abbrev fields_after : ℕ → Channel → Moved
fields_after ticks c =
    record {
      cycles_in_state = older ticks c.counter.cycles_in_state;
      counting_element = element_after ticks c;
      ticked = ticked_by ticks c.counter.ticked;
      output_latch = (followed_by ticks c.latch (element_after ticks c)).output_latch;
    }

pub counted_in_place : (ticks : ℕ) (c : Channel) → with_skipped c (fields_after ticks c) ≡ aged_by ticks (times (ticks * takes c) count c)
unfolding aged_by
counted_in_place ticks c =
    rw (counted-at-once (ticks * takes c) c)
    (simp (none_made ticks (takes c) (takes-few c).0, follows-in-place ticks c.latch (element_after ticks c)))

-- the same where the cycles are counted last
pub counted_then_aged : (ticks : ℕ) (c : Channel)
    → aged_by ticks
    (with_skipped c
    (record {
      cycles_in_state = c.counter.cycles_in_state;
      counting_element = element_after ticks c;
      ticked = ticked_by ticks c.counter.ticked;
      output_latch = (followed_by ticks c.latch (element_after ticks c)).output_latch;
    }))
    ≡ aged_by ticks (times (ticks * takes c) count c)
unfolding aged_by
counted_then_aged ticks c = counted_in_place ticks c
