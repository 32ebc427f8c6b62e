-- What the test for a beginning says of a record. Assumes nothing.
use mathlib.Core.Bool.{Bool, true, false, cond, false≢true}
use mathlib.Core.Path.{◌≡◌, refl}
use Rattle.channel.specs.declared.Channel.{Channel}
use Rattle.channel.specs.declared.RwMode.{RwMode}
use Rattle.channel.specs.declared.RwMode.TheVariants.{Lsb, Msb, LsbMsb}
use Rattle.channel.specs.declared.ReadState.{ReadState}
use Rattle.channel.specs.declared.ReadState.TheVariants.{NoRead, ReadLsb}
use Rattle.latch.specs.Status.{no_status}
use Rattle.latch.specs.Reading.{starts_word}
use Rattle.reading.specs.Beginning.{may_begin}

starts-fresh : (s : ReadState) (a : RwMode) → starts_word s a ≡ true → (a ≡ LsbMsb) × (s ≡ NoRead)
starts-fresh NoRead Lsb e = absurd (false≢true e)
starts-fresh NoRead Msb e = absurd (false≢true e)
starts-fresh NoRead LsbMsb e = (refl, refl)
starts-fresh ReadLsb a e = absurd (false≢true e)

starts-unless : (latched starts : Bool) → cond latched false starts ≡ true → (latched ≡ false) × (starts ≡ true)
starts-unless true starts e = absurd (false≢true e)
starts-unless false starts e = (refl, e)

only_if : (none starts : Bool) → cond none starts false ≡ true → (none ≡ true) × (starts ≡ true)
only_if true starts e = (refl, e)
only_if false starts e = absurd (false≢true e)

module _ (c : Channel) (may : may_begin c ≡ true) where
  started : (no_status c ≡ true) × (cond c.latch.count_is_latched false (starts_word c.latch.read_state c.control.rw_mode) ≡ true)
  started = only_if (no_status c) (cond c.latch.count_is_latched false (starts_word c.latch.read_state c.control.rw_mode)) may

  pub none-held : no_status c ≡ true
  none-held = started.0

  opened : (c.latch.count_is_latched ≡ false) × (starts_word c.latch.read_state c.control.rw_mode ≡ true)
  opened = starts-unless c.latch.count_is_latched (starts_word c.latch.read_state c.control.rw_mode) started.1

  pub not-latched : c.latch.count_is_latched ≡ false
  not-latched = opened.0

  pub low-then-high : c.control.rw_mode ≡ LsbMsb
  low-then-high = (starts-fresh c.latch.read_state c.control.rw_mode opened.1).0

  pub no-half-read : c.latch.read_state ≡ NoRead
  no-half-read = (starts-fresh c.latch.read_state c.control.rw_mode opened.1).1

-- and the other way round
pub may-begin : (c : Channel) → no_status c ≡ true → c.latch.count_is_latched ≡ false → c.control.rw_mode ≡ LsbMsb → c.latch.read_state ≡ NoRead → may_begin c ≡ true
may-begin c none free access whole = simp (none, free, access, whole)
