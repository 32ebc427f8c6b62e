-- What the words of a read tell: low or high, and the byte is that half of the output latch, whatever stands there; and a read after which the channel is latched still was
-- the first of a held word. Assumes nothing.
use mathlib.Core.Bool.{Bool, true, false, cond, false≢true}
use mathlib.Core.Path.{◌≡◌, refl, sym, ap, ◌∙◌}
use native.Mathlib.Omega.{arith}
use Prim.Native.Nat.{ℕ}
use Rattle.std.specs.Prelude.{Option, Some, None}
use Rattle.channel.specs.declared.Channel.{Channel}
use Rattle.channel.specs.declared.Latch.{Latch}
use Rattle.channel.specs.declared.RwMode.{RwMode}
use Rattle.channel.specs.declared.RwMode.TheVariants.{Lsb, Msb, LsbMsb}
use Rattle.channel.specs.declared.ReadState.{ReadState}
use Rattle.channel.specs.declared.ReadState.TheVariants.{NoRead, ReadLsb}
use Rattle.channel.proofs.Pick.{of-pick, pick_same}
use Rattle.latch.specs.declared.reading.Half.{Half}
use Rattle.latch.specs.declared.reading.Half.TheVariants as half
use Rattle.latch.specs.declared.label.Label.{Label}
use Rattle.latch.specs.declared.reading.ByteRead.{ByteRead}
use Rattle.latch.specs.Status.{no_status}
use Rattle.latch.specs.Reading.{byte_at, after_read, next_half, count_read, status_read, read_byte}
use Rattle.latch.specs.Label.{count_label, status_label, label_of, IsHalf, with_value}
use Rattle.latch.proofs.Words.{count-read, every-read}

half_in : (h : Half) (v : ℕ) → IsHalf (Some h) (byte_at h v) v
half_in half.Low v = refl
half_in half.High v = refl

label-half-in : (c : Channel) (v : ℕ) (none : Bool)
    → IsHalf (cond none (count_label c) status_label).half (cond none (count_read (with_value c v)) (status_read (with_value c v))).byte v
label-half-in c v true = half_in (next_half c) v
label-half-in c v false = tt

-- in every access, and of a half-read word too; of a held status, which is neither half, nothing is said
pub label-half : (c : Channel) (v : ℕ) → IsHalf (label_of c).half (read_byte (with_value c v)).byte v
unfolding label_of read_byte
label-half c v = label-half-in c v (no_status c)

low-or-high-in : (h : Half) → ◌≡◌ {A = Option Half} (Some h) None → ⊥
low-or-high-in h e = let z : ◌≡◌ {A = ℕ} 0 1 = cc in omega arith

pub count-label : (c : Channel) → no_status c ≡ true → label_of c ≡ count_label c
unfolding label_of
count-label c none = rw none refl

pub low_or_high : (c : Channel) → no_status c ≡ true → (label_of c).half ≡ None → ⊥
low_or_high c none e = low-or-high-in (next_half c) (ap (λ (l : Label). l.half) (sym (count-label c none)) ∙ e)

-- .. and where one is held the words are `none held`
pub status-label : (c : Channel) → no_status c ≡ false → label_of c ≡ status_label
unfolding label_of
status-label c held = rw held refl

pub label_same : (c : Channel) (v : ℕ) → label_of (with_value c v) ≡ label_of c
unfolding label_of
label_same c v = refl

-- a word whose first byte was asked for, in a latch that stands
pub record Starts (c : Channel) : Type 0 where
  pub access : c.control.rw_mode ≡ LsbMsb
  pub whole : c.latch.read_state ≡ NoRead
  pub held : c.latch.count_is_latched ≡ true

starts-in : (s : ReadState) (a : RwMode) (l : Latch) → l.read_state ≡ s → (after_read l a).count_is_latched ≡ true
    → (a ≡ LsbMsb) × (s ≡ NoRead) × (l.count_is_latched ≡ true)
starts-in NoRead Lsb l is e = absurd (false≢true (simp is at e))
starts-in NoRead Msb l is e = absurd (false≢true (simp is at e))
starts-in NoRead LsbMsb l is e = (refl, refl, simp is at e)
starts-in ReadLsb a l is e = absurd (false≢true (simp is at e))

count-starts : (c : Channel) → (count_read c).channel.latch.count_is_latched ≡ true → Starts c
count-starts c e =
    let all = starts-in c.latch.read_state c.control.rw_mode c.latch refl e in
    record { access = all.0; whole = all.1; held = all.2 }

pub starts-held : (c : Channel) → no_status c ≡ true → (read_byte c).channel.latch.count_is_latched ≡ true → Starts c
starts-held c none e = count-starts c (ap (λ (r : ByteRead). r.channel.latch.count_is_latched) (sym (count-read c none)) ∙ e)

-- a read after which the channel is latched leaves the latch as it found it: it was of a held status, or the first of a word
pub read_left : (c : Channel) → (read_byte c).channel.latch.count_is_latched ≡ true
    → (c.latch.count_is_latched ≡ true) × ((read_byte c).channel.latch.output_latch ≡ c.latch.output_latch)
read_left c =
    every-read
    (λ (r : ByteRead). r.channel.latch.count_is_latched ≡ true → (c.latch.count_is_latched ≡ true) × (r.channel.latch.output_latch ≡ c.latch.output_latch))
    c
    (λ none e. ((count-starts c e).held, simp (of-pick (λ (l : Latch). l.output_latch), pick_same)))
    (λ held e. (e, refl))

latches-nothing-in : (c : Channel) (after : Bool) → (count_read c).channel.latch.count_is_latched ≡ after → c.latch.count_is_latched ≡ false → after ≡ false
latches-nothing-in c false is free = refl
latches-nothing-in c true is free = absurd (false≢true (sym free ∙ (count-starts c is).held))

-- a channel that is not latched is not latched after a read either
pub read-latches-nothing : (c : Channel) → c.latch.count_is_latched ≡ false → (read_byte c).channel.latch.count_is_latched ≡ false
read-latches-nothing c free =
    every-read (λ (r : ByteRead). r.channel.latch.count_is_latched ≡ false) c (λ none. latches-nothing-in c _ refl free) (λ held. free)
