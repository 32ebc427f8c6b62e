-- A record that holds a word for reading, whole or with its low byte read: a latch makes it so, what disturbs nothing keeps it so, and its two reads give the word's
-- bytes and say that they are held. Assumes nothing.
use Prim.Native.Nat.{ℕ, ◌/◌, ◌%◌}
use mathlib.Core.Bool.{true}
use mathlib.Core.Path.{◌≡◌, refl, ap, ◌∙◌}
use lib.Dec.{eqb}
use Rattle.channel.specs.declared.Channel.{Channel}
use Rattle.channel.specs.declared.ControlWord.{ControlWord}
use Rattle.channel.specs.declared.Latch.{Latch}
use Rattle.channel.specs.declared.RwMode.TheVariants.{LsbMsb}
use Rattle.channel.specs.declared.ReadState.{ReadState}
use Rattle.channel.specs.declared.ReadState.TheVariants.{NoRead, ReadLsb}
use Rattle.latch.specs.Latching.{latch_count}
use Rattle.latch.specs.Status.{no_status}
use Rattle.latch.specs.Reading.{read_byte}
use Rattle.latch.specs.Label.{label_of}
use Rattle.latch.proofs.Words as words
use Rattle.reading.specs.Beginning.{may_begin}
use Rattle.reading.specs.Spelling.{low_held, high_held}
use Rattle.reading.proofs.Counted.{Undisturbed}
use Rattle.reading.proofs.May.{none-held, low-then-high, no-half-read, may-begin}

pub record Holds (word : ℕ) (half : ReadState) (c : Channel) : Type 0 where
  pub no-status : no_status c ≡ true
  pub access : c.control.rw_mode ≡ LsbMsb
  pub latched : c.latch.count_is_latched ≡ true
  pub held : c.latch.output_latch ≡ word
  pub half-read : c.latch.read_state ≡ half

pub latch-holds : (c : Channel) → may_begin c ≡ true → Holds c.counter.counting_element NoRead (latch_count c)
unfolding latch_count
latch-holds c may = record { no-status = none-held c may; access = low-then-high c may; latched = refl; held = refl; half-read = no-half-read c may }

pub undisturbed-holds : {c d : Channel} {word : ℕ} {half : ReadState} → Undisturbed c d → Holds word half c → Holds word half d
undisturbed-holds p h =
    record {
      no-status = ap (λ (s : ℕ). eqb s 0) p.same-status ∙ h.no-status;
      access = ap (λ (w : ControlWord). w.rw_mode) p.same-control ∙ h.access;
      latched = p.same-latched ∙ h.latched;
      held = ap (λ (l : Latch). l.output_latch) (p.still-held h.latched) ∙ h.held;
      half-read = p.same_half ∙ h.half-read;
    }

-- the first read gives the low byte, and the latch stands
module _ (c : Channel) (word : ℕ) (h : Holds word NoRead c) where
  pub first_byte : (read_byte c).byte ≡ word % 256
  first_byte = words.first_byte c h.no-status h.access h.half-read ∙ ap (λ (x : ℕ). x % 256) h.held

  pub first-label : label_of c ≡ low_held
  unfolding label_of
  first-label = simp (h.no-status, h.half-read, h.access, h.latched)

  pub first_holds : Holds word ReadLsb (read_byte c).channel
  first_holds =
      record {
        no-status = words.read-once c;
        access = ap (λ (w : ControlWord). w.rw_mode) (words.read-control c) ∙ h.access;
        latched = ap (λ (l : Latch). l.count_is_latched) (words.first-latch c h.no-status h.access h.half-read) ∙ h.latched;
        held = ap (λ (l : Latch). l.output_latch) (words.first-latch c h.no-status h.access h.half-read) ∙ h.held;
        half-read = ap (λ (l : Latch). l.read_state) (words.first-latch c h.no-status h.access h.half-read);
      }

-- the second gives the high byte, and a reading may begin again
module _ (c : Channel) (word : ℕ) (h : Holds word ReadLsb c) where
  pub second-byte : (read_byte c).byte ≡ word / 256
  second-byte = words.second-byte c h.no-status h.half-read ∙ ap (λ (x : ℕ). x / 256) h.held

  pub second-label : label_of c ≡ high_held
  unfolding label_of
  second-label = simp (h.no-status, h.half-read, h.latched)

  pub second-may : may_begin (read_byte c).channel ≡ true
  second-may =
      may-begin (read_byte c).channel (words.read-once c) (ap (λ (l : Latch). l.count_is_latched) (words.second-latch c h.no-status h.half-read))
      (ap (λ (w : ControlWord). w.rw_mode) (words.read-control c) ∙ h.access)
      (ap (λ (l : Latch). l.read_state) (words.second-latch c h.no-status h.half-read))
