-- The reads of a channel. Where no status is held: the two reads of a word, the first of which gives the low byte and leaves the latch, and the second the high byte and ends
-- it. A held status is read once and leaves the latch. No read touches anything but the latch and the held status. Assumes nothing.
use Prim.Native.Nat.{◌/◌, ◌%◌}
use mathlib.Core.Bool.{true, false}
use mathlib.Core.Path.{◌≡◌, refl}
use Rattle.channel.specs.declared.Channel.{Channel}
use Rattle.channel.specs.declared.RwMode.TheVariants.{LsbMsb}
use Rattle.channel.specs.declared.ReadState.TheVariants.{NoRead, ReadLsb}
use Rattle.channel.proofs.Pick.{pick-knowing}
use Rattle.latch.specs.declared.reading.ByteRead.{ByteRead}
use Rattle.latch.specs.Status.{no_status}
use Rattle.latch.specs.Reading.{count_read, status_read, read_byte}

pub count-read : (c : Channel) → no_status c ≡ true → read_byte c ≡ count_read c
unfolding read_byte
count-read c none = rw none refl

pub status-read : (c : Channel) → no_status c ≡ false → read_byte c ≡ status_read c
unfolding read_byte
status-read c held = rw held refl

-- what holds of a read of the count and of a read of the status holds of every read
pub every-read : (P : ByteRead → Type 0) (c : Channel) → (no_status c ≡ true → P (count_read c)) → (no_status c ≡ false → P (status_read c)) → P (read_byte c)
unfolding read_byte
every-read P c counts status = pick-knowing P (no_status c) (count_read c) (status_read c) counts status

pub read-control : (c : Channel) → (read_byte c).channel.control ≡ c.control
read-control c = every-read (λ (r : ByteRead). r.channel.control ≡ c.control) c (λ none. refl) (λ held. refl)

pub read-counter : (c : Channel) → (read_byte c).channel.counter ≡ c.counter
read-counter c = every-read (λ (r : ByteRead). r.channel.counter ≡ c.counter) c (λ none. refl) (λ held. refl)

pub read-pins : (c : Channel) → (read_byte c).channel.pins ≡ c.pins
read-pins c = every-read (λ (r : ByteRead). r.channel.pins ≡ c.pins) c (λ none. refl) (λ held. refl)

-- "read first, once": after any read none is held
pub read-once : (c : Channel) → no_status (read_byte c).channel ≡ true
read-once c = every-read (λ (r : ByteRead). no_status r.channel ≡ true) c (λ none. none) (λ held. refl)

module _ (c : Channel) (none : no_status c ≡ true) (access : c.control.rw_mode ≡ LsbMsb) (whole : c.latch.read_state ≡ NoRead) where
  pub first_byte : (read_byte c).byte ≡ c.latch.output_latch % 256
  first_byte = rw (count-read c none) (simp (access, whole))

  pub first-latch : (read_byte c).channel.latch
      ≡ record { output_latch = c.latch.output_latch; count_is_latched = c.latch.count_is_latched; read_state = ReadLsb }
  first-latch = rw (count-read c none) (simp (access, whole))

module _ (c : Channel) (none : no_status c ≡ true) (half : c.latch.read_state ≡ ReadLsb) where
  pub second-byte : (read_byte c).byte ≡ c.latch.output_latch / 256
  second-byte = rw (count-read c none) (simp half)

  pub second-latch : (read_byte c).channel.latch
      ≡ record { output_latch = c.latch.output_latch; count_is_latched = false; read_state = NoRead }
  second-latch = rw (count-read c none) (simp half)
