-- One of the quiet counting ticks, mode by mode: it ends no half, does not come to the mark of mode 2, leaves output and arming, takes as many counts
-- as the next, and leaves one quiet tick fewer, or no end of them. Assumes nothing.
use Prim.Native.Nat.{ℕ, suc, ◌+◌, ◌-◌, ◌/◌, ◌%◌, ◌<◌, ◌≤◌}
use mathlib.Core.Bool.{Bool, true, false, not, cond, ◌&&◌, and-true}
use mathlib.Core.Path.{◌≡◌, refl, ap}
use native.Mathlib.Omega.{arith}
use lib.Dec.{eqb}
use borrow.Author.Tests.{ne_eqb}
use Rattle.numbers.specs.Digits.{weight}
use Rattle.numbers.specs.Times.{times}
use Rattle.channel.specs.declared.ChannelMode.{ChannelMode}
use Rattle.channel.specs.declared.ChannelMode.TheVariants.{InterruptOnTerminalCount, HardwareRetriggerableOneShot, RateGenerator, SquareWaveGenerator, SoftwareTriggeredStrobe, HardwareTriggeredStrobe}
use Rattle.channel.specs.Modes.{by_mode}
use Rattle.count.specs.Step.{step_in}
use Rattle.tick.specs.Due.{reloads_from}
use Rattle.tick.specs.Taken.{square_takes}
use Rattle.tick.specs.Level.{strobes, count_level}
use Rattle.tick.specs.Tick.{ends_half}
use Rattle.quiet.specs.Inner.{counts_to_zero, quiet_for}
use Rattle.quiet.proofs.Rounds.{below_step, not_yet, nearer, even-after-two}

-- `takes`, of what it reads
abbrev pub takes_at : ChannelMode → Bool → ℕ → ℕ
takes_at m level e = by_mode 1 1 1 (square_takes level e) 1 1 m

-- `quiet` of a channel that counts, of what it reads
abbrev pub quiet_at : ChannelMode → Bool → Bool → Bool → ℕ → ℕ
quiet_at m bcd level armed e = quiet_for m level armed e (counts_to_zero bcd e)

pub record Alike (m : ChannelMode) (bcd level armed : Bool) (before after : ℕ) : Type 0 where
  pub fits : after < 65536
  pub no-half : ends_half m after ≡ false
  pub no-reload : reloads_from m after ≡ false
  pub same-level : count_level m level armed after ≡ level
  pub same-armed : (armed && not (strobes m armed after)) ≡ armed
  pub same_takes : takes_at m level after ≡ takes_at m level before
  pub less-quiet : quiet_at m bcd level armed before ≤ suc (quiet_at m bcd level armed after)

one-away : (bcd : Bool) → counts_to_zero bcd 1 ≡ 1
unfolding weight
one-away true = refl
one-away false = refl

module _ (bcd : Bool) (e : ℕ) (h : e < 65536) where
  alike-0 : (level armed : Bool) → 0 < quiet_at InterruptOnTerminalCount bcd level armed e
      → Alike InterruptOnTerminalCount bcd level armed e (step_in bcd e)
  alike-0 true armed q =
      record {
        fits = below_step bcd e h;
        no-half = refl;
        no-reload = refl;
        same-level = refl;
        same-armed = and-true armed;
        same_takes = refl;
        less-quiet = omega arith;
      }
  alike-0 false armed q =
      let far : 1 < counts_to_zero bcd e = omega arith in
      record {
        fits = below_step bcd e h;
        no-half = refl;
        no-reload = refl;
        same-level = ne_eqb (step_in bcd e) 0 (not_yet bcd e h far);
        same-armed = and-true armed;
        same_takes = refl;
        less-quiet = omega (arith, nearer bcd e h far);
      }

  alike-1 : (level armed : Bool) → 0 < quiet_at HardwareRetriggerableOneShot bcd level armed e
      → Alike HardwareRetriggerableOneShot bcd level armed e (step_in bcd e)
  alike-1 level armed q =
      let p = alike-0 level armed q in
      record {
        fits = p.fits;
        no-half = refl;
        no-reload = refl;
        same-level = p.same-level;
        same-armed = p.same-armed;
        same_takes = refl;
        less-quiet = p.less-quiet;
      }

  alike-2 : (level armed : Bool) → 0 < quiet_at RateGenerator bcd level armed e → Alike RateGenerator bcd level armed e (step_in bcd e)
  alike-2 true armed q =
      let far : 1 < counts_to_zero bcd e = omega arith in
      let next : counts_to_zero bcd (step_in bcd e) + 1 ≡ counts_to_zero bcd e = nearer bcd e h far in
      let mark : eqb (step_in bcd e) 1 ≡ false =
      ne_eqb (step_in bcd e) 1 (λ z. omega (arith, one-away bcd, ap (λ (x : ℕ). counts_to_zero bcd x) z)) in
      record {
        fits = below_step bcd e h;
        no-half = refl;
        no-reload = mark;
        same-level = ap not mark;
        same-armed = and-true armed;
        same_takes = refl;
        less-quiet = omega arith;
      }
  alike-2 false armed q = absurd (omega arith)

  -- by twos, from an even element
  alike-3 : (level armed : Bool) → eqb (e % 2) 0 ≡ true → 1 < counts_to_zero bcd e / 2
      → Alike SquareWaveGenerator bcd level armed e (step_in bcd (step_in bcd e))
  alike-3 level armed even q =
      let far : 1 < counts_to_zero bcd e = omega arith in
      let next : counts_to_zero bcd (step_in bcd e) + 1 ≡ counts_to_zero bcd e = nearer bcd e h far in
      let below : step_in bcd e < 65536 = below_step bcd e h in
      let far2 : 1 < counts_to_zero bcd (step_in bcd e) = omega arith in
      let last : counts_to_zero bcd (step_in bcd (step_in bcd e)) + 1 ≡ counts_to_zero bcd (step_in bcd e) = nearer bcd (step_in bcd e) below far2 in
      let even2 : eqb (step_in bcd (step_in bcd e) % 2) 0 ≡ true = rw (even-after-two bcd e h) even in
      record {
        fits = below_step bcd (step_in bcd e) below;
        no-half = ne_eqb (step_in bcd (step_in bcd e)) 0 (not_yet bcd (step_in bcd e) below far2);
        no-reload = refl;
        same-level = refl;
        same-armed = and-true armed;
        same_takes = simp (even, even2);
        less-quiet = simp (even, even2) (omega arith);
      }

  alike-4 : (level armed : Bool) → 0 < quiet_at SoftwareTriggeredStrobe bcd level armed e
      → Alike SoftwareTriggeredStrobe bcd level armed e (step_in bcd e)
  alike-4 true true q =
      let far : 1 < counts_to_zero bcd e = omega arith in
      let mark : eqb (step_in bcd e) 0 ≡ false = ne_eqb (step_in bcd e) 0 (not_yet bcd e h far) in
      record {
        fits = below_step bcd e h;
        no-half = refl;
        no-reload = refl;
        same-level = ap not mark;
        same-armed = ap not mark;
        same_takes = refl;
        less-quiet = omega (arith, nearer bcd e h far);
      }
  alike-4 true false q =
      record {
        fits = below_step bcd e h;
        no-half = refl;
        no-reload = refl;
        same-level = refl;
        same-armed = refl;
        same_takes = refl;
        less-quiet = omega arith;
      }
  alike-4 false armed q = absurd (omega arith)

  alike-5 : (level armed : Bool) → 0 < quiet_at HardwareTriggeredStrobe bcd level armed e
      → Alike HardwareTriggeredStrobe bcd level armed e (step_in bcd e)
  alike-5 level armed q =
      let p = alike-4 level armed q in
      record {
        fits = p.fits;
        no-half = refl;
        no-reload = refl;
        same-level = p.same-level;
        same-armed = p.same-armed;
        same_takes = refl;
        less-quiet = p.less-quiet;
      }

  halves : (even level armed : Bool) → eqb (e % 2) 0 ≡ even → 0 < cond even (counts_to_zero bcd e / 2 - 1) 0
      → Alike SquareWaveGenerator bcd level armed e (times (cond even 2 (cond level 1 3)) (step_in bcd) e)
  halves true level armed same q = alike-3 level armed same (omega arith)
  halves false level armed same q = absurd (omega arith)

  pub alike : (m : ChannelMode) (level armed : Bool) → 0 < quiet_at m bcd level armed e
      → Alike m bcd level armed e (times (takes_at m level e) (step_in bcd) e)
  alike InterruptOnTerminalCount level armed q = alike-0 level armed q
  alike HardwareRetriggerableOneShot level armed q = alike-1 level armed q
  alike RateGenerator level armed q = alike-2 level armed q
  alike SquareWaveGenerator level armed q = halves (eqb (e % 2) 0) level armed refl q
  alike SoftwareTriggeredStrobe level armed q = alike-4 level armed q
  alike HardwareTriggeredStrobe level armed q = alike-5 level armed q
