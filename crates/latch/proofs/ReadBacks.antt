-- What a read-back leaves alone of a channel that it names: all but the latch, the held status and dirty. Assumes nothing.
use Prim.Native.Nat.{ℕ}
use mathlib.Core.Bool.{Bool, true, false, cond, true≢false}
use mathlib.Core.Path.{◌≡◌, refl, sym, ap, ◌∙◌}
use lib.Dec.{eqb}
use Rattle.channel.specs.declared.Channel.{Channel}
use Rattle.channel.specs.declared.Status.{Status}
use Rattle.channel.proofs.Pick.{of-pick, pick_same, pick-holds, pick-knowing}
use Rattle.latch.specs.Latching.{latch_count}
use Rattle.latch.specs.Status.{no_status, status_byte, with_status_latch}
use Rattle.latch.specs.ReadBack.{count_held, status_held, read_back}
use Rattle.latch.specs.declared.reading.ByteRead.{ByteRead}
use Rattle.latch.specs.Reading.{read_byte}
use Rattle.latch.proofs.StatusByte.{status-never-0}
use Rattle.latch.proofs.Words.{status-read}

-- what latching a count and holding a status leave alone
pub record ReadKeeps (c d : Channel) : Type 0 where
  pub control-stays : d.control ≡ c.control
  pub reloading-stays : d.reloading ≡ c.reloading
  pub load-stays : d.load ≡ c.load
  pub counter-stays : d.counter ≡ c.counter
  pub pins-stay : d.pins ≡ c.pins
  pub half-stays : d.latch.read_state ≡ c.latch.read_state
  pub null-stays : d.status.null_count ≡ c.status.null_count

all_stay : (c : Channel) → ReadKeeps c c
all_stay c =
    record { control-stays = refl; reloading-stays = refl; load-stays = refl; counter-stays = refl; pins-stay = refl; half-stays = refl; null-stays = refl }

latch-stays : (c : Channel) → ReadKeeps c (latch_count c)
unfolding latch_count
latch-stays c =
    record { control-stays = refl; reloading-stays = refl; load-stays = refl; counter-stays = refl; pins-stay = refl; half-stays = refl; null-stays = refl }

count-held : (asked : Bool) (c : Channel) → ReadKeeps c (count_held asked c)
count-held asked c =
    pick-holds (ReadKeeps c) asked _ c (pick-holds (ReadKeeps c) c.latch.count_is_latched c (latch_count c) (all_stay c) (latch-stays c)) (all_stay c)

status-stays : (c d : Channel) → ReadKeeps c d → (byte : ℕ) → ReadKeeps c (with_status_latch d byte)
status-stays c d keeps byte =
    record {
      control-stays = keeps.control-stays;
      reloading-stays = keeps.reloading-stays;
      load-stays = keeps.load-stays;
      counter-stays = keeps.counter-stays;
      pins-stay = keeps.pins-stay;
      half-stays = keeps.half-stays;
      null-stays = keeps.null-stays;
    }

status-held : (asked : Bool) (c d : Channel) → ReadKeeps c d → ReadKeeps c (status_held asked d)
status-held asked c d keeps =
    pick-holds (ReadKeeps c) asked _ d (pick-holds (ReadKeeps c) (no_status d) _ d (status-stays c d keeps (status_byte d)) keeps) keeps

-- a status held beside it does not touch the latch, nor dirty
pub status-leaves : (asked : Bool) (c : Channel) → ((status_held asked c).latch ≡ c.latch) × ((status_held asked c).dirty ≡ c.dirty)
status-leaves asked c =
    (simp (of-pick (λ (d : Channel). d.latch), pick_same), simp (of-pick (λ (d : Channel). d.dirty), pick_same))

-- a count that is held, or not asked for, stays; another is latched as the plain latch does
module _ (counts status : Bool) (c : Channel) where
  pub back-kept : c.latch.count_is_latched ≡ true → (read_back counts status c).latch ≡ c.latch
  unfolding read_back
  back-kept held =
      (status-leaves status (count_held counts c)).0
      ∙ pick-holds (λ (d : Channel). d.latch ≡ c.latch) counts _ c
      (pick-knowing (λ (d : Channel). d.latch ≡ c.latch) c.latch.count_is_latched c (latch_count c) (λ e. refl) (λ free. absurd (true≢false (sym held ∙ free))))
      refl

  pub back-unasked : counts ≡ false → (read_back counts status c).latch ≡ c.latch
  unfolding read_back
  back-unasked not-asked = (status-leaves status (count_held counts c)).0 ∙ rw not-asked refl

  pub back-taken : counts ≡ true → c.latch.count_is_latched ≡ false → (read_back counts status c).latch ≡ (latch_count c).latch
  unfolding read_back
  back-taken asked free = (status-leaves status (count_held counts c)).0 ∙ rw (asked, free) refl

-- a count latched beside it does not change what the status shows, nor whether one is held
pub count-leaves : (asked : Bool) (c : Channel) → (status_byte (count_held asked c) ≡ status_byte c) × ((count_held asked c).status ≡ c.status)
unfolding latch_count status_byte
count-leaves asked c = (
  pick-holds (λ (d : Channel). status_byte d ≡ status_byte c) asked _ c (pick-holds (λ (d : Channel). status_byte d ≡ status_byte c) c.latch.count_is_latched c _ refl refl) refl,
  pick-holds (λ (d : Channel). d.status ≡ c.status) asked _ c (pick-holds (λ (d : Channel). d.status ≡ c.status) c.latch.count_is_latched c _ refl refl) refl,
)

-- where none is held the status of this moment is the next byte read
pub status-next : (counts : Bool) (c : Channel) → no_status c ≡ true → (read_byte (read_back counts true c)).byte ≡ status_byte c
unfolding read_back
status-next counts c none =
    let d = count_held counts c in
    let free : no_status d ≡ true = ap (λ (s : Status). eqb s.status_latch 0) (count-leaves counts c).1 ∙ none in
    let is : status_held true d ≡ with_status_latch d (status_byte d) = ap (λ (x : Bool). cond x (with_status_latch d (status_byte d)) d) free in
    ap (λ (e : Channel). (read_byte e).byte) is
    ∙ ap (λ (r : ByteRead). r.byte) (status-read (with_status_latch d (status_byte d)) (status-never-0 d))
    ∙ (count-leaves counts c).0

pub read-back-keeps : (counts status : Bool) (c : Channel) → ReadKeeps c (read_back counts status c)
unfolding read_back
read-back-keeps counts status c = status-held status c (count_held counts c) (count-held counts c)
