-- R1 and of R2 its end: where no status is held, the bytes that read an output latch out are the sheet's, in its order, and the last of them ends the latch.
-- Where a word is half read in one-byte access, which no sequence of calls leads to, the sheet is silent and document 01 decides.
-- Assumes nothing.
use mathlib.Core.Path.{◌≡◌, ap, ◌∙◌}
use mathlib.Core.Bool.{true, false}
use Rattle.channel.specs.declared.Channel.{Channel}
use Rattle.channel.specs.declared.RwMode.{RwMode}
use Rattle.channel.specs.declared.RwMode.TheVariants.{Lsb, Msb, LsbMsb}
use Rattle.channel.specs.declared.ReadState.TheVariants.{NoRead}
use Rattle.channel.specs.declared.Latch.{Latch}
use Rattle.latch.specs.Status.{no_status}
use Rattle.latch.specs.declared.reading.ByteRead.{ByteRead}
use Rattle.latch.specs.Reading.{count_read, read_byte}
use Rattle.latch.proofs.Words.{count-read, first-latch}
use Rattle.sheet.specs.Reading.{read_out}
use Rattle.sheet.specs.Loading.{bytes_of}
use Rattle.agreement.specs.Words.{sheet_access}
use Rattle.agreement.specs.Reads.{bytes_read, after_reads}

pub read-agrees : (a : RwMode) (c : Channel) → no_status c ≡ true → c.control.rw_mode ≡ a → c.latch.read_state ≡ NoRead
    → bytes_read (bytes_of (sheet_access a)) c ≡ read_out (sheet_access a) c.latch.output_latch
unfolding read_byte
read-agrees Lsb c none e h = simp (none, e, h)
read-agrees Msb c none e h = simp (none, e, h)
read-agrees LsbMsb c none e h = simp (none, e, h)

-- R2: "reading it out ... ends the latch", and leaves no word half read
pub reading-ends : (a : RwMode) (c : Channel) → no_status c ≡ true → c.control.rw_mode ≡ a → c.latch.read_state ≡ NoRead
    → ((after_reads (bytes_of (sheet_access a)) c).latch.count_is_latched ≡ false)
    × ((after_reads (bytes_of (sheet_access a)) c).latch.read_state ≡ NoRead)
reading-ends Lsb c none e h = (rw (count-read c none, after_reads) (simp (e, h)), rw (count-read c none, after_reads) (simp (e, h)))
reading-ends Msb c none e h = (rw (count-read c none, after_reads) (simp (e, h)), rw (count-read c none, after_reads) (simp (e, h)))
reading-ends LsbMsb c none e h =
    let both = ap (λ (r : ByteRead). read_byte r.channel) (count-read c none) ∙ count-read (count_read c).channel none in
    (rw (both, after_reads) (simp (e, h)), rw (both, after_reads) (simp (e, h)))

-- a word's first byte does not end it
pub first_holds : (c : Channel) → no_status c ≡ true → c.control.rw_mode ≡ LsbMsb → c.latch.read_state ≡ NoRead
    → ((read_byte c).channel.latch.count_is_latched ≡ c.latch.count_is_latched)
    × ((read_byte c).channel.latch.output_latch ≡ c.latch.output_latch)
first_holds c none e h =
    (ap (λ (l : Latch). l.count_is_latched) (first-latch c none e h), ap (λ (l : Latch). l.output_latch) (first-latch c none e h))
