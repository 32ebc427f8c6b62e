-- A channel that makes a square wave, and its parts that no tick changes: mode, radix, the load mask and the gate, which is high. Beside them what a tick does
-- change: state, level and value. Assumes nothing.
use Prim.Native.Nat.{ℕ, ◌-◌, ◌≤◌}
use mathlib.Core.Bool.{Bool, true}
use mathlib.Core.Path.{◌≡◌, refl, ap, ◌∙◌}
use lib.Bits.{bit_and}
use borrow.Author.Tests.{ne_eqb}
use Rattle.numbers.specs.Times.{times}
use Rattle.numbers.specs.Radix.{radix_counts}
use Rattle.channel.specs.declared.Channel.{Channel}
use Rattle.channel.specs.declared.ChannelMode.TheVariants.{SquareWaveGenerator}
use Rattle.channel.specs.declared.ChannelState.TheVariants.{Counting}
use Rattle.channel.specs.declared.ControlWord.{ControlWord}
use Rattle.channel.specs.declared.Pins.{Pins}
use Rattle.channel.specs.declared.PitType.{PitType}
use Rattle.channel.specs.declared.PitType.TheVariants.{Model8253, Model8254}
use Rattle.channel.specs.declared.ReloadFlag.{ReloadFlag}
use Rattle.channel.specs.declared.ReloadFlag.TheVariants.{Normal}
use Rattle.channel.specs.declared.Reloading.{Reloading}
use Rattle.channel.specs.Shared.{change_channel_state, change_output_state, put_element}
use Rattle.count.specs.Count.{count}
use Rattle.count.proofs.Repeated.{control-kept}
use Rattle.load.specs.Cycle.{load_value}
use Rattle.load.proofs.Value.{value-masked}
use Rattle.mode.specs.Mode.{square_mask}
use Rattle.tick.specs.Tick.{with_armed, loaded, load_at}
use Rattle.sheet.specs.Ticking.{held}
use Rattle.agreement.proofs.HeldCounts.{counts-held, counts-reloading, counts-pins, counts-state}
use Rattle.agreement.proofs.SquareHeld.{held-not-one, whole-mask, odd-mask}
use Rattle.agreement.proofs.SquareValue.{loaded_count}

pub record Set (model : PitType) (bcd : Bool) (d : Channel) : Type 0 where
  pub mode-is : d.control.mode ≡ SquareWaveGenerator
  pub radix-is : d.control.bcd_mode ≡ bcd
  pub masked : d.reloading.load_mask ≡ square_mask model
  pub gate-high : d.pins.gate ≡ true

-- .. that counts, with the output at a level and v in its counter
pub record At (model : PitType) (bcd : Bool) (flag : ReloadFlag) (high : Bool) (v : ℕ) (d : Channel) : Type 0 where
  pub set : Set model bcd d
  pub state-is : d.counter.channel_state ≡ Counting flag
  pub level-is : d.pins.output ≡ high
  pub element-is : d.counter.counting_element ≡ held bcd v

mask-leaves : (model : PitType) (bcd : Bool) (n : ℕ) → bit_and (held bcd n) (square_mask model) ≡ held bcd (loaded_count model n)
mask-leaves Model8253 bcd n = whole-mask bcd n
mask-leaves Model8254 bcd n = odd-mask bcd n

module _ (model : PitType) (bcd : Bool) where
  -- what has the same mode and radix, load mask and gate is set alike
  pub set-kept : (c d : Channel) → d.control ≡ c.control → d.reloading ≡ c.reloading → d.pins.gate ≡ c.pins.gate
      → Set model bcd c → Set model bcd d
  set-kept c d control reloading gate h =
      record {
        mode-is = ap (λ (w : ControlWord). w.mode) control ∙ h.mode-is;
        radix-is = ap (λ (w : ControlWord). w.bcd_mode) control ∙ h.radix-is;
        masked = ap (λ (r : Reloading). r.load_mask) reloading ∙ h.masked;
        gate-high = gate ∙ h.gate-high;
      }

  -- k counts take k from the value, and change nothing else of this
  pub counted : (flag : ReloadFlag) (high : Bool) (v k : ℕ) (d : Channel) → k ≤ v → v ≤ radix_counts bcd
      → At model bcd flag high v d → At model bcd flag high (v - k) (times k count d)
  counted flag high v k d few most h =
      record {
        set = set-kept d (times k count d) (control-kept k d) (counts-reloading k d) (ap (λ (p : Pins). p.gate) (counts-pins k d)) h.set;
        state-is = counts-state k d ∙ h.state-is;
        level-is = ap (λ (p : Pins). p.output) (counts-pins k d) ∙ h.level-is;
        element-is =
            counts-held d v k few (rw h.set.radix-is most) (rw h.set.radix-is h.element-is)
            ∙ ap (λ (b : Bool). held b (v - k)) h.set.radix-is;
      }

  -- what a load moves of the count n
  pub value_loaded : (n : ℕ) (d : Channel) → d.control.mode ≡ SquareWaveGenerator → d.reloading.load_mask ≡ square_mask model
      → d.load.reload_value ≡ held bcd n → load_value d ≡ held bcd (loaded_count model n)
  value_loaded n d square masked written = value-masked d square ∙ rw (written, masked) (mask-leaves model bcd n)

  -- .. and leaves
  module _ (n : ℕ) (level : Bool) (d : Channel) (written : d.load.reload_value ≡ held bcd n) (h : Set model bcd d) where
    loaded_at : At model bcd Normal level (loaded_count model n) (loaded level d)
    unfolding loaded with_armed change_output_state change_channel_state put_element
    loaded_at =
        record { set = set-kept d (loaded level d) refl refl refl h; state-is = refl; level-is = refl; element-is = value_loaded n d h.mode-is h.masked written }

    -- a load of a count from 2 on, at a level
    pub load-at : 2 ≤ n → n ≤ radix_counts bcd → At model bcd Normal level (loaded_count model n) (load_at level d)
    unfolding load_at
    load-at least most = simp (h.mode-is, written, ne_eqb (held bcd n) 1 (held-not-one bcd n least most)) loaded_at
