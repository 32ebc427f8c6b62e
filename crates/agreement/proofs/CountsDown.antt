-- M0, M1, M4, M5: from the load on every tick takes one, and the counter goes round. Assumes nothing.
use Prim.Native.Nat.{ℕ, suc}
use mathlib.Core.Bool.{Bool, true, false, false≢true}
use mathlib.Core.Path.{◌≡◌, refl, sym, ap, ◌∙◌}
use native.Mathlib.Numerals.{add-one}
use Rattle.numbers.specs.Radix.{radix_counts}
use Rattle.numbers.proofs.Modulo.{again}
use Rattle.channel.specs.declared.Channel.{Channel}
use Rattle.channel.specs.declared.ChannelMode.{ChannelMode}
use Rattle.channel.specs.declared.ChannelMode.TheVariants.{InterruptOnTerminalCount, HardwareRetriggerableOneShot, RateGenerator, SquareWaveGenerator, SoftwareTriggeredStrobe, HardwareTriggeredStrobe}
use Rattle.channel.specs.declared.PitType.{PitType}
use Rattle.channel.specs.Modes.{by_mode, mode_number}
use Rattle.channel.specs.Queries.{does_retrigger}
use Rattle.count.specs.Count.{count}
use Rattle.sheet.specs.Ticking.{Chip, held, down_value, value_after}
use Rattle.tick.specs.Due.{runs, reloads_from}
use Rattle.tick.specs.Taken.{square_takes}
use Rattle.tick.specs.Tick.{ends_half, tick}
use Rattle.agreement.specs.Gating.{goes_on}
use Rattle.agreement.proofs.HeldCounts.{values-above, counts-round}
use Rattle.agreement.proofs.TickCounts.{CountedTo, due-count, tick-counts}

-- the modes that load once and then only count
abbrev pub counts_down : ChannelMode → Bool
counts_down = by_mode true true false false true true

pub every-down : (P : ChannelMode → Type 0)
    → P InterruptOnTerminalCount → P HardwareRetriggerableOneShot → P SoftwareTriggeredStrobe → P HardwareTriggeredStrobe
    → (m : ChannelMode) → counts_down m ≡ true → P m
every-down P p0 p1 p4 p5 InterruptOnTerminalCount down = p0
every-down P p0 p1 p4 p5 HardwareRetriggerableOneShot down = p1
every-down P p0 p1 p4 p5 RateGenerator down = absurd (false≢true down)
every-down P p0 p1 p4 p5 SquareWaveGenerator down = absurd (false≢true down)
every-down P p0 p1 p4 p5 SoftwareTriggeredStrobe down = p4
every-down P p0 p1 p4 p5 HardwareTriggeredStrobe down = p5

-- of these, those whose output goes high at zero and stays there (M0, M1), and those that strobe (M4, M5)
abbrev pub ends_high : ChannelMode → Bool
ends_high = by_mode true true false false false false

abbrev pub is_strobe : ChannelMode → Bool
is_strobe = by_mode false false false false true true

-- what that means for the tick's tables
pub any-loaded : (m : ChannelMode) → counts_down m ≡ true → does_retrigger m ≡ false
any-loaded = every-down (λ (m : ChannelMode). does_retrigger m ≡ false) refl refl refl refl

pub not-square : (m : ChannelMode) → counts_down m ≡ true → m ≡ SquareWaveGenerator → ⊥
not-square m down square = false≢true (sym (ap counts_down square) ∙ down)

one-taken : (square : ℕ) (m : ChannelMode) → counts_down m ≡ true → by_mode 1 1 1 square 1 1 m ≡ 1
one-taken square = every-down (λ (m : ChannelMode). by_mode 1 1 1 square 1 1 m ≡ 1) refl refl refl refl

never-reloads : (e : ℕ) (m : ChannelMode) → counts_down m ≡ true → reloads_from m e ≡ false
never-reloads e = every-down (λ (m : ChannelMode). reloads_from m e ≡ false) refl refl refl refl

no-half : (e : ℕ) (m : ChannelMode) → counts_down m ≡ true → ends_half m e ≡ false
no-half e = every-down (λ (m : ChannelMode). ends_half m e ≡ false) refl refl refl refl

-- and for the sheet's
pub value-down : (chip : Chip) (bcd : Bool) (n j : ℕ) (m : ChannelMode) → counts_down m ≡ true
    → value_after chip bcd (mode_number m) n j ≡ down_value bcd n j
value-down chip bcd n j = every-down (λ (m : ChannelMode). value_after chip bcd (mode_number m) n j ≡ down_value bcd n j) refl refl refl refl

-- one tick of a channel whose count goes on, in these modes
pub tick-down : (model : PitType) (c : Channel) → counts_down c.control.mode ≡ true → goes_on c.counter.channel_state ≡ true
    → runs c ≡ true → CountedTo (count c).counter.counting_element c (tick model c)
tick-down model c down goes running =
    tick-counts c goes model
    (due-count c goes running (never-reloads c.counter.counting_element c.control.mode down))
    (one-taken (square_takes c.pins.output c.counter.counting_element) c.control.mode down)
    (no-half (count c).counter.counting_element c.control.mode down)

-- one count, after j
pub count_down : (bcd : Bool) (n j : ℕ) (c : Channel) → c.control.bcd_mode ≡ bcd → c.counter.counting_element ≡ held bcd (down_value bcd n j)
    → (count c).counter.counting_element ≡ held bcd (down_value bcd n (suc j))
count_down bcd n j c radix e =
    counts-round bcd (down_value bcd n j) 1 c radix e
    ∙ rw (← add-one j) (ap (held bcd) (again (radix_counts bcd) n j 1 (values-above bcd)))
