-- RB1, RB2 and RB4: a read-back acts as a latch of the count, of the status, or of both, and what is latched already stays as it was; the status byte is the sheet's for every record; a
-- status is read first, and the count after it as a count that was latched plainly. Assumes nothing.
use Prim.Native.Nat.{ℕ, suc, ◌+◌, ◌*◌, ◌/◌, ◌%◌, ◌<◌, ◌≤◌}
use mathlib.Core.Bool.{Bool, true, false, cond, not, ◌&&◌, ◌||◌}
use mathlib.Core.List.{◌∷◌}
use mathlib.Core.Path.{◌≡◌, refl, sym, ap, ◌∙◌}
use native.Mathlib.Omega.{arith}
use lib.Dec.{eqb}
use borrow.Author.Tests.{eqb-true}
use Rattle.numbers.specs.Flags.{flag_number}
use Rattle.channel.specs.declared.Channel.{Channel}
use Rattle.channel.specs.declared.Latch.{Latch}
use Rattle.channel.specs.declared.RwMode.{RwMode}
use Rattle.channel.specs.declared.Status.{Status}
use Rattle.channel.specs.declared.RwMode.TheVariants.{Lsb, Msb, LsbMsb}
use Rattle.channel.specs.declared.ReadState.TheVariants.{NoRead}
use Rattle.channel.specs.Modes.{mode_number}
use Rattle.channel.proofs.Pick.{of-pick}
use Rattle.latch.specs.declared.reading.ByteRead.{ByteRead}
use Rattle.latch.specs.Latching.{latch_count}
use Rattle.latch.specs.Status.{access_number, status_byte, no_status, with_status_latch}
use Rattle.latch.specs.ReadBack.{count_held, status_held, read_back}
use Rattle.latch.specs.Reading.{read_byte}
use Rattle.latch.proofs.StatusByte.{flag-below, access-from, mode-below, status-never-0}
use Rattle.latch.proofs.Words.{status-read}
use Rattle.latch.proofs.ReadBacks.{status-leaves, count-leaves, status-next}
use Rattle.sheet.specs.ControlByte.{bit, two_bits}
use Rattle.sheet.specs.Reading.{read_out}
use Rattle.sheet.specs.Loading.{bytes_of}
use Rattle.sheet.specs.ReadBack.{Latched, empty, latched, latch_once, access_code, IsStatus, status_first}
use Rattle.agreement.specs.Words.{sheet_access}
use Rattle.agreement.specs.Reads.{bytes_read}
use Rattle.agreement.proofs.Latching.{frozen}

below-eight : (n : ℕ) → 4 * (n / 4) + two_bits (n / 2 % 2) (n % 2) ≡ n
below-eight n = omega arith

-- bits 3, 2 and 1 as one number
three-bits : (x : ℕ) → 4 * bit 3 x + two_bits (bit 2 x) (bit 1 x) ≡ x / 2 % 8
three-bits x =
    let n = x / 2 % 8 in
    let b3 : n / 4 ≡ x / 8 % 2 = omega arith in
    let b2 : n / 2 % 2 ≡ x / 4 % 2 = omega arith in
    let b1 : n % 2 ≡ x / 2 % 2 = omega arith in
    (λ i. 4 * sym b3 i + two_bits (sym b2 i) (sym b1 i)) ∙ below-eight n

-- RB2: the parts keep to their bits
module _ (o n a m b : ℕ) (o1 : o ≤ 1) (n1 : n ≤ 1) (a3 : a ≤ 3) (m5 : m ≤ 5) (b1 : b ≤ 1) where
  abbrev byte : ℕ
  byte = o * 128 + n * 64 + a * 16 + m * 2 + b

  part-7 : bit 7 byte ≡ o
  part-7 = omega arith

  part-6 : bit 6 byte ≡ n
  part-6 = omega arith

  parts-5-4 : two_bits (bit 5 byte) (bit 4 byte) ≡ a
  parts-5-4 = omega arith

  parts-3-1 : 4 * bit 3 byte + two_bits (bit 2 byte) (bit 1 byte) ≡ m
  parts-3-1 = three-bits byte ∙ (let at : byte / 2 % 8 ≡ m = omega arith in at)

  part-0 : bit 0 byte ≡ b
  part-0 = omega arith

  in-eight : byte < 256
  in-eight = omega arith

same_code : (a : RwMode) → access_number a ≡ access_code (sheet_access a)
same_code Lsb = refl
same_code Msb = refl
same_code LsbMsb = refl

pub status-agrees : (c : Channel)
    → IsStatus (status_byte c) c.pins.output c.status.null_count (sheet_access c.control.rw_mode) (mode_number c.control.mode) c.control.bcd_mode
unfolding status_byte
status-agrees c =
    let o = flag_number c.pins.output in
    let n = flag_number c.status.null_count in
    let a = access_number c.control.rw_mode in
    let m = mode_number c.control.mode in
    let b = flag_number c.control.bcd_mode in
    let o1 = flag-below c.pins.output in
    let n1 = flag-below c.status.null_count in
    let a3 = (access-from c.control.rw_mode).1 in
    let m5 = mode-below c.control.mode in
    let b1 = flag-below c.control.bcd_mode in
    record {
      eight-bits = in-eight o n a m b o1 n1 a3 m5 b1;
      bit-7 = part-7 o n a m b o1 n1 a3 m5 b1;
      bit-6 = part-6 o n a m b o1 n1 a3 m5 b1;
      bits-5-4 = parts-5-4 o n a m b o1 n1 a3 m5 b1 ∙ same_code c.control.rw_mode;
      bits-3-1 = parts-3-1 o n a m b o1 n1 a3 m5 b1;
      bit-0 = part-0 o n a m b o1 n1 a3 m5 b1;
    }

-- RB1: the chip's two latches, as the record has them
abbrev pub status_in : Channel → Latched
status_in c = cond (no_status c) empty (latched c.status.status_latch)

abbrev pub count_in : Channel → Latched
count_in c = cond c.latch.count_is_latched (latched c.latch.output_latch) empty

-- "what is already latched stays as it was", of the count ..
count-once : (c : Channel) (held : Bool) → c.latch.count_is_latched ≡ held → count_in (count_held true c) ≡ latch_once (count_in c) c.counter.counting_element
unfolding latch_count
count-once c true e = simp e
count-once c false e = simp e

-- .. and of the status, which a count latched beside it does not change
status-once : (c : Channel) (none : Bool) → no_status c ≡ none → status_in (status_held true c) ≡ latch_once (status_in c) (status_byte c)
status-once c true e = rw e (simp (status-never-0 c))
status-once c false e = simp e

count-asked : (asked : Bool) (c : Channel) → count_in (count_held asked c) ≡ cond asked (latch_once (count_in c) c.counter.counting_element) (count_in c)
count-asked true c = count-once c c.latch.count_is_latched refl
count-asked false c = refl

status-asked : (asked : Bool) (c : Channel) → status_in (status_held asked c) ≡ cond asked (latch_once (status_in c) (status_byte c)) (status_in c)
status-asked true c = status-once c (no_status c) refl
status-asked false c = refl

dirty-asked : (asked held was : Bool) → cond asked (cond held was true) was ≡ (was || (asked && not held))
dirty-asked true true true = refl
dirty-asked true true false = refl
dirty-asked true false true = refl
dirty-asked true false false = refl
dirty-asked false held true = refl
dirty-asked false held false = refl

-- RB1: "It acts as one latch for each counter named": of the counts if they are asked for, of the status if it is, each by itself; a count that is latched sets dirty, and nothing
-- else does
module _ (counts status : Bool) (c : Channel) where
  pub counts-latched : count_in (read_back counts status c) ≡ cond counts (latch_once (count_in c) c.counter.counting_element) (count_in c)
  unfolding read_back
  counts-latched =
      ap (λ (l : Latch). cond l.count_is_latched (latched l.output_latch) empty) (status-leaves status (count_held counts c)).0 ∙ count-asked counts c

  pub status-latched : status_in (read_back counts status c) ≡ cond status (latch_once (status_in c) (status_byte c)) (status_in c)
  unfolding read_back
  status-latched =
      let same = count-leaves counts c in
      let held = ap (λ (s : Status). cond (eqb s.status_latch 0) empty (latched s.status_latch)) same.1 in
      status-asked status (count_held counts c) ∙ (λ i. cond status (latch_once (held i) (same.0 i)) (held i))

  pub dirty-latched : (read_back counts status c).dirty ≡ (c.dirty || (counts && not c.latch.count_is_latched))
  unfolding read_back latch_count
  dirty-latched =
      (status-leaves status (count_held counts c)).1
      ∙ of-pick (λ (d : Channel). d.dirty) counts _ c
      ∙ ap (λ (x : Bool). cond counts x c.dirty) (of-pick (λ (d : Channel). d.dirty) c.latch.count_is_latched c (latch_count c))
      ∙ dirty-asked counts c.latch.count_is_latched c.dirty

-- neither asked for, nothing changes
pub nothing-asked : (c : Channel) → read_back false false c ≡ c
unfolding read_back
nothing-asked c = refl

-- A count latched so is a count latched plainly: the records are the same, so every later read is ..
module _ (c : Channel) (free : c.latch.count_is_latched ≡ false) where
  pub count-as-plain : read_back true false c ≡ latch_count c
  unfolding read_back
  count-as-plain = rw free refl

  -- .. and with the status beside it they are once the status has been read
  module _ (none : no_status c ≡ true) where
    both-held : read_back true true c ≡ with_status_latch (latch_count c) (status_byte c)
    unfolding read_back latch_count status_byte
    both-held = rw (free, none) refl

    never-none : no_status (with_status_latch (latch_count c) (status_byte c)) ≡ false
    never-none = status-never-0 c

    pub status-read-first : (read_byte (read_back true true c)).byte ≡ status_byte c
    status-read-first = status-next true c none

    pub then-as-plain : (read_byte (read_back true true c)).channel ≡ latch_count c
    unfolding latch_count
    then-as-plain =
        ap (λ (d : Channel). (read_byte d).channel) both-held
        ∙ ap (λ (r : ByteRead). r.channel) (status-read (with_status_latch (latch_count c) (status_byte c)) never-none)
        ∙ ap (with_status_latch (latch_count c)) (sym (eqb-true c.status.status_latch 0 none))

    -- RB4: "If both are latched, the first read gives the status and the next one or two the count."
    pub both_read : (a : RwMode) → c.control.rw_mode ≡ a → c.latch.read_state ≡ NoRead
        → bytes_read (suc (bytes_of (sheet_access a))) (read_back true true c)
        ≡ status_first (latched (status_byte c)) (read_out (sheet_access a) c.counter.counting_element)
    both_read a access whole =
        let count = ap (bytes_read (bytes_of (sheet_access a))) then-as-plain ∙ frozen 0 a c none access whole in
        λ i. status-read-first i ∷ count i
