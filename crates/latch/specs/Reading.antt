-- Document 01, "Counting, latch and reading": reads of a channel's data port; document 02, L5, where a status is held.
use Rattle.std.specs.Prelude.{ℕ, ◌/◌, ◌%◌, Bool, true, false, cond}
use Rattle.channel.specs.declared.Channel.{Channel}
use Rattle.channel.specs.declared.Latch.{Latch}
use Rattle.channel.specs.declared.RwMode.{RwMode}
use Rattle.channel.specs.declared.RwMode.TheVariants.{Lsb, Msb, LsbMsb}
use Rattle.channel.specs.declared.ReadState.{ReadState}
use Rattle.channel.specs.declared.ReadState.TheVariants.{NoRead, ReadLsb}
use Rattle.channel.specs.Record.{with_latch}
use Rattle.latch.specs.declared.reading.Half.{Half}
use Rattle.latch.specs.declared.reading.Half.TheVariants.{Low, High}
use Rattle.latch.specs.declared.reading.ByteRead.{ByteRead}
use Rattle.latch.specs.Status.{no_status, with_status_latch}

-- "Reads come from the output latch: low, high, or low then high; in any access a half-read word gives its high byte next."
abbrev pub half_at : ReadState → RwMode → Half
half_at NoRead Lsb = Low
half_at NoRead Msb = High
half_at NoRead LsbMsb = Low
half_at ReadLsb a = High

-- a half of the output latch, as a byte
abbrev pub byte_at : Half → ℕ → ℕ
byte_at Low v = v % 256
byte_at High v = v / 256

-- a word's first byte: low then high, and no word half read
abbrev pub starts_word : ReadState → RwMode → Bool
starts_word NoRead Lsb = false
starts_word NoRead Msb = false
starts_word NoRead LsbMsb = true
starts_word ReadLsb a = false

-- "A low, a high or a word's second byte ends the latch."
abbrev pub after_read : Latch → RwMode → Latch
after_read l a =
    cond (starts_word l.read_state a)
    (record { output_latch = l.output_latch; count_is_latched = l.count_is_latched; read_state = ReadLsb })
    (record { output_latch = l.output_latch; count_is_latched = false; read_state = NoRead })

abbrev pub next_half : Channel → Half
next_half c = half_at c.latch.read_state c.control.rw_mode

-- a byte of the count, and the channel after it
abbrev pub count_read : Channel → ByteRead
count_read c =
    record {
      byte = byte_at (next_half c) c.latch.output_latch;
      channel = with_latch c (after_read c.latch c.control.rw_mode);
    }

-- L5: "A held status is read first, once, and does not disturb a half-read word": it neither ends a latch nor is half of a word
abbrev pub status_read : Channel → ByteRead
status_read c = record { byte = c.status.status_latch; channel = with_status_latch c 0 }

-- the byte read, and the channel after it
unfoldable pub read_byte : Channel → ByteRead
read_byte c = cond (no_status c) (count_read c) (status_read c)
