-- M0, M1, M4, M5 in step with the sheets' counter: the tick that loads, and every tick that counts. Assumes nothing.
use Prim.Native.Nat.{ℕ, suc, ◌≤◌}
use mathlib.Core.Bool.{Bool, true, not, ◌&&◌, false≢true}
use mathlib.Core.Path.{◌≡◌, refl, sym, ap, ◌∙◌}
use native.Mathlib.Omega.{arith}
use lib.Dec.{ltb}
use borrow.Author.Tests.{lt-ltb, ne_eqb}
use Rattle.numbers.specs.Radix.{radix_counts}
use Rattle.channel.specs.declared.Channel.{Channel}
use Rattle.channel.specs.declared.ChannelMode.{ChannelMode}
use Rattle.channel.specs.declared.LoadType.TheVariants.{SubsequentLoad}
use Rattle.channel.specs.declared.PitType.{PitType}
use Rattle.channel.specs.Modes.{mode_number}
use Rattle.load.proofs.Value.{value-whole}
use Rattle.tick.specs.declared.due.Kind.TheVariants.{Load}
use Rattle.tick.specs.Due.{runs, due}
use Rattle.tick.specs.Kept.{TickKeeps}
use Rattle.tick.specs.Level.{load_level, strobes, count_level}
use Rattle.tick.specs.Tick.{tick}
use Rattle.tick.proofs.Keeps as kept
use Rattle.sheet.specs.Ticking.{held, down_value, high_from, output_after, smallest}
use Rattle.agreement.specs.Gating.{goes_on}
use Rattle.agreement.specs.Words.{sheet_chip}
use Rattle.agreement.proofs.CountsDown.{counts_down, every-down, any-loaded, not-square, value-down, tick-down, count_down, ends_high, is_strobe}
use Rattle.agreement.proofs.HeldCounts.{held-round}
use Rattle.agreement.proofs.TickCounts.{CountedTo}
use Rattle.agreement.proofs.TickLoads.{LoadedAt, tick-loads}
use Rattle.agreement.proofs.Tracking.{top_of, core_of, Down, down, Arrived}
use Rattle.agreement.proofs.ZeroAt.{rises, strobes-once, armed-until}

-- the level of a load, and what it leaves of it for the next tick
load-shows : (n : ℕ) → 1 ≤ n → (m : ChannelMode) → counts_down m ≡ true → load_level m ≡ output_after (mode_number m) n 0
load-shows n least =
    let low = sym (ap not (lt-ltb 0 n least)) in
    let high = sym (ap not (ne_eqb 0 n (λ q. omega arith))) in
    every-down (λ (m : ChannelMode). load_level m ≡ output_after (mode_number m) n 0) low low high high

load-level : (n : ℕ) → 1 ≤ n → (m : ChannelMode) → counts_down m ≡ true → ends_high m ≡ true → load_level m ≡ high_from n 0
load-level n least =
    let low = sym (ap not (lt-ltb 0 n least)) in
    every-down (λ (m : ChannelMode). ends_high m ≡ true → load_level m ≡ high_from n 0)
    (λ h. low)
    (λ h. low)
    (λ h. absurd (false≢true h))
    (λ h. absurd (false≢true h))

least-one : (n : ℕ) (m : ChannelMode) → counts_down m ≡ true → smallest (mode_number m) ≤ n → 1 ≤ n
least-one n = every-down (λ (m : ChannelMode). smallest (mode_number m) ≤ n → 1 ≤ n) (λ l. l) (λ l. l) (λ l. l) (λ l. l)

-- a count to tick j + 1
module _ (bcd : Bool) (n j : ℕ) (most : n ≤ radix_counts bcd) (level armed : Bool) where
  abbrev next : ℕ
  next = held bcd (down_value bcd n (suc j))

  count-shows : (m : ChannelMode) → counts_down m ≡ true → (ends_high m ≡ true → level ≡ high_from n j) → (is_strobe m ≡ true → armed ≡ ltb j n)
      → count_level m level armed next ≡ output_after (mode_number m) n (suc j)
  count-shows =
      every-down
      (λ (m : ChannelMode). (ends_high m ≡ true → level ≡ high_from n j) → (is_strobe m ≡ true → armed ≡ ltb j n)
      → count_level m level armed next ≡ output_after (mode_number m) n (suc j))
      (λ high strobe. rw (high refl) (rises bcd n j most))
      (λ high strobe. rw (high refl) (rises bcd n j most))
      (λ high strobe. rw (strobe refl) (strobes-once bcd n j most))
      (λ high strobe. rw (strobe refl) (strobes-once bcd n j most))

  count-level : (m : ChannelMode) → counts_down m ≡ true → (ends_high m ≡ true → level ≡ high_from n j)
      → ends_high m ≡ true → count_level m level armed next ≡ high_from n (suc j)
  count-level =
      every-down
      (λ (m : ChannelMode). (ends_high m ≡ true → level ≡ high_from n j) → ends_high m ≡ true → count_level m level armed next ≡ high_from n (suc j))
      (λ high is. rw (high refl) (rises bcd n j most))
      (λ high is. rw (high refl) (rises bcd n j most))
      (λ high is. absurd (false≢true is))
      (λ high is. absurd (false≢true is))

  count-armed : (m : ChannelMode) → counts_down m ≡ true → (is_strobe m ≡ true → armed ≡ ltb j n)
      → is_strobe m ≡ true → (armed && not (strobes m armed next)) ≡ ltb (suc j) n
  count-armed =
      every-down
      (λ (m : ChannelMode). (is_strobe m ≡ true → armed ≡ ltb j n) → is_strobe m ≡ true → (armed && not (strobes m armed next)) ≡ ltb (suc j) n)
      (λ strobe is. absurd (false≢true is))
      (λ strobe is. absurd (false≢true is))
      (λ strobe is. rw (strobe refl) (armed-until bcd n j most))
      (λ strobe is. rw (strobe refl) (armed-until bcd n j most))

pub down_top : (model : PitType) (n : ℕ) (m : ChannelMode) → counts_down m ≡ true → top_of model m n ≡ n
down_top model n = every-down (λ (m : ChannelMode). top_of model m n ≡ n) refl refl refl refl

module _ (model : PitType) (c : Channel) (n : ℕ) (is_down : counts_down c.control.mode ≡ true) (complete : c.load.load_type ≡ SubsequentLoad)
    (least : smallest (mode_number c.control.mode) ≤ n) (most : n ≤ radix_counts c.control.bcd_mode) where
  keeps : TickKeeps c (tick model c)
  keeps = kept.tick-keeps model c

  from_one : 1 ≤ n
  from_one = least-one n c.control.mode is_down least

  -- what the next channel has, if its count goes down and it stands at tick j
  down-there : (j : ℕ) → Down (core_of (tick model c)) n j → (tick model c).pins.output ≡ output_after (mode_number c.control.mode) n j
      → Arrived model (tick model c) n j
  down-there j there output =
      record {
        counts =
            record {
              complete = keeps.load-type-kept ∙ complete;
              at_least = rw keeps.control-kept least;
              at_most = rw (keeps.control-kept, down_top model n c.control.mode is_down) most;
              there = down there;
            };
        shows-output = rw keeps.control-kept output;
        shows-value =
            there.has_value
            ∙ rw keeps.control-kept
            (ap (held c.control.bcd_mode) (sym (value-down (sheet_chip model) c.control.bcd_mode n j c.control.mode is_down)));
      }

  pub loads-down : due c ≡ Load → c.load.reload_value ≡ held c.control.bcd_mode n → Arrived model (tick model c) n 0
  loads-down is-due written =
      let moved : LoadedAt (load_level c.control.mode) c (tick model c) = tick-loads c (simp (any-loaded c.control.mode is_down)) model is-due in
      down-there 0
      (record {
        down = rw keeps.control-kept is_down;
        has_value =
            rw keeps.control-kept
            (moved.has_value ∙ value-whole c (not-square c.control.mode is_down) ∙ written ∙ held-round c.control.bcd_mode n);
        goes = ap goes_on moved.is-counting;
        level = rw keeps.control-kept (λ high. moved.has-level ∙ load-level n from_one c.control.mode is_down high);
        armed = λ strobe. moved.is-armed ∙ sym (lt-ltb 0 n from_one);
      })
      (moved.has-level ∙ load-shows n from_one c.control.mode is_down)

  pub counts-down : (j : ℕ) → runs c ≡ true → Down (core_of c) n j → Arrived model (tick model c) n (suc j)
  counts-down j running now =
      let e = count_down c.control.bcd_mode n j c refl now.has_value in
      let step : CountedTo (held c.control.bcd_mode (down_value c.control.bcd_mode n (suc j))) c (tick model c) =
      rw e at (tick-down model c is_down now.goes running) in
      down-there (suc j)
      (record {
        down = rw keeps.control-kept is_down;
        has_value = rw keeps.control-kept step.has_value;
        goes = ap goes_on step.is-counting;
        level =
            rw keeps.control-kept
            (λ high. step.has-level ∙ count-level c.control.bcd_mode n j most c.pins.output c.load.armed c.control.mode is_down now.level high);
        armed =
            rw keeps.control-kept
            (λ strobe. step.is-armed ∙ count-armed c.control.bcd_mode n j most c.pins.output c.load.armed c.control.mode is_down now.armed strobe);
      })
      (step.has-level ∙ count-shows c.control.bcd_mode n j most c.pins.output c.load.armed c.control.mode is_down now.level now.armed)
