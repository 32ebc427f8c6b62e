-- R2: "A latch command freezes the value read; counting goes on underneath; reading it out, or programming the counter anew, ends the
-- latch." Assumes nothing.
use Prim.Native.Nat.{ℕ, zero, suc}
use mathlib.Core.Path.{◌≡◌, refl, ap, ◌∙◌}
use mathlib.Core.Bool.{true, false}
use Rattle.channel.specs.declared.Channel.{Channel}
use Rattle.channel.specs.declared.ControlWord.{ControlWord}
use Rattle.channel.specs.declared.Latch.{Latch}
use Rattle.channel.specs.declared.PitType.{PitType}
use Rattle.channel.specs.declared.ReadState.TheVariants.{NoRead}
use Rattle.channel.specs.declared.RwMode.{RwMode}
use Rattle.channel.specs.Shared.{put_element}
use Rattle.count.specs.Count.{count}
use Rattle.count.proofs.Repeated.{control-kept, status-kept}
use Rattle.count.proofs.Held.{held_after}
use Rattle.latch.specs.Latching.{latch_count}
use Rattle.latch.specs.Status.{no_status}
use Rattle.mode.specs.Mode.{set_mode}
use Rattle.numbers.specs.Times.{times}
use Rattle.sheet.specs.Reading.{read_out}
use Rattle.sheet.specs.Loading.{bytes_of}
use Rattle.agreement.specs.Words.{sheet_access}
use Rattle.agreement.specs.Reads.{bytes_read, after_reads}
use Rattle.agreement.proofs.Reading.{read-agrees, reading-ends}

-- n counts after a latch find the latch as the command left it, in the same access
latch-stands : (n : ℕ) (c : Channel) → (times n count (latch_count c)).latch ≡ (latch_count c).latch
unfolding latch_count
latch-stands n c = held_after n (latch_count c) refl

access-stands : (n : ℕ) (c : Channel) → (times n count (latch_count c)).control ≡ c.control
unfolding latch_count
access-stands n c = control-kept n (latch_count c)

status-stands : (n : ℕ) (c : Channel) → (times n count (latch_count c)).status ≡ c.status
unfolding latch_count
status-stands n c = status-kept n (latch_count c)

module _ (n : ℕ) (a : RwMode) (c : Channel) (none : no_status c ≡ true) (access : c.control.rw_mode ≡ a) (whole : c.latch.read_state ≡ NoRead) where
  after-access : (times n count (latch_count c)).control.rw_mode ≡ a
  after-access = ap (λ (w : ControlWord). w.rw_mode) (access-stands n c) ∙ access

  after-whole : (times n count (latch_count c)).latch.read_state ≡ NoRead
  unfolding latch_count
  after-whole = ap (λ (l : Latch). l.read_state) (latch-stands n c) ∙ whole

  after_none : no_status (times n count (latch_count c)) ≡ true
  after_none = rw (status-stands n c) none

  -- "freezes the value read": however many counts follow, the bytes are those of the value at the latch
  pub frozen : bytes_read (bytes_of (sheet_access a)) (times n count (latch_count c)) ≡ read_out (sheet_access a) c.counter.counting_element
  unfolding latch_count
  frozen =
      read-agrees a (times n count (latch_count c)) after_none after-access after-whole
      ∙ ap (λ (l : Latch). read_out (sheet_access a) l.output_latch) (latch-stands n c)

  -- "reading it out ... ends the latch"
  pub read-out-ends : (after_reads (bytes_of (sheet_access a)) (times n count (latch_count c))).latch.count_is_latched ≡ false
  read-out-ends = (reading-ends a (times n count (latch_count c)) after_none after-access after-whole).0

-- "counting goes on underneath": the counting element does not see the latch
unseen : (n : ℕ) (c : Channel)
    → ((times n count (latch_count c)).counter ≡ (times n count c).counter) × ((times n count (latch_count c)).control ≡ (times n count c).control)
unfolding count put_element latch_count
unseen zero c = (refl, refl)
unseen (suc n) c = (simp ((unseen n c).0, (unseen n c).1), (unseen n c).1)

pub underneath : (n : ℕ) (c : Channel) → (times n count (latch_count c)).counter ≡ (times n count c).counter
underneath n c = (unseen n c).0

-- "programming the counter anew, ends the latch"
pub mode-ends : (c : Channel) (w : ControlWord) (model : PitType) → (set_mode c w model).latch.count_is_latched ≡ false
unfolding set_mode
mode-ends c w model = refl

-- R1-8253 promises an unlatched read only of a counter that is held; document 01's follows each count
pub live : (c : Channel) → c.latch.count_is_latched ≡ false → (count c).latch.output_latch ≡ (count c).counter.counting_element
unfolding count put_element
live c h = simp h
