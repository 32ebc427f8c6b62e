-- What is known of a channel from what happened to it: its mark; where a count was written, its reload value, and else that it waits for one; and where the latest is a load, the value that
-- was loaded. What touches none of this keeps it. Assumes nothing.
use Prim.Native.Nat.{ℕ}
use mathlib.Core.Bool.{true, false}
use mathlib.Core.List.{List, [], ◌∷◌}
use mathlib.Core.Path.{◌≡◌, refl, sym, ◌∙◌}
use Rattle.sheet.specs.Counter.{Fixed, left_open, fixed_at}
use Rattle.sheet.specs.NullCount.{Happening, programmed, written, loaded, null_count, last_written}
use Rattle.channel.specs.declared.Channel.{Channel}
use Rattle.channel.specs.declared.ChannelState.TheVariants.{WaitingForReload}
use Rattle.load.specs.Cycle.{masked_in, load_value}

-- the count written last is the reload value; before one is written the channel waits for it
abbrev pub IsWritten : Fixed ℕ → Channel → Type 0
IsWritten left_open c = c.counter.channel_state ≡ WaitingForReload
IsWritten (fixed_at count) c = c.load.reload_value ≡ count

-- a value is what the count written last loads as
abbrev pub LoadsAs : ℕ → Fixed ℕ → Channel → Type 0
LoadsAs value left_open c = ⊥
LoadsAs value (fixed_at count) c = value ≡ masked_in c.control.mode count c.reloading.load_mask

-- .. if the latest is a load
abbrev pub IsLoaded : List Happening → Channel → Type 0
IsLoaded [] c = Unit
IsLoaded (programmed ∷ earlier) c = Unit
IsLoaded (written count ∷ earlier) c = Unit
IsLoaded (loaded value ∷ earlier) c = LoadsAs value (last_written earlier) c

pub record Knows (all : List Happening) (c : Channel) : Type 0 where
  pub null_is : c.status.null_count ≡ null_count all
  pub written_is : IsWritten (last_written all) c
  pub loaded-is : IsLoaded all c

-- what keeps all that this goes by
pub record Unmoved (c d : Channel) : Type 0 where
  pub same-null : d.status.null_count ≡ c.status.null_count
  pub same-control : d.control ≡ c.control
  pub same-rules : d.reloading ≡ c.reloading
  pub same-reload : d.load.reload_value ≡ c.load.reload_value
  pub still-waits : c.counter.channel_state ≡ WaitingForReload → d.counter.channel_state ≡ WaitingForReload

pub unmoved-same : (c : Channel) → Unmoved c c
unmoved-same c = record { same-null = refl; same-control = refl; same-rules = refl; same-reload = refl; still-waits = λ waits. waits }

pub unmoved-then : {c d e : Channel} → Unmoved c d → Unmoved d e → Unmoved c e
unmoved-then p q =
    record {
      same-null = q.same-null ∙ p.same-null;
      same-control = q.same-control ∙ p.same-control;
      same-rules = q.same-rules ∙ p.same-rules;
      same-reload = q.same-reload ∙ p.same-reload;
      still-waits = λ waits. q.still-waits (p.still-waits waits);
    }

written-still : {c d : Channel} → Unmoved c d → (f : Fixed ℕ) → IsWritten f c → IsWritten f d
written-still p left_open h = p.still-waits h
written-still p (fixed_at count) h = p.same-reload ∙ h

loads-still : {c d : Channel} → Unmoved c d → (value : ℕ) (f : Fixed ℕ) → LoadsAs value f c → LoadsAs value f d
loads-still p value left_open h = h
loads-still p value (fixed_at count) h = h ∙ sym (λ i. masked_in (p.same-control i).mode count (p.same-rules i).load_mask)

loaded-still : {c d : Channel} → Unmoved c d → (all : List Happening) → IsLoaded all c → IsLoaded all d
loaded-still p [] h = tt
loaded-still p (programmed ∷ earlier) h = tt
loaded-still p (written count ∷ earlier) h = tt
loaded-still p (loaded value ∷ earlier) h = loads-still p value (last_written earlier) h

pub knows-still : {all : List Happening} {c d : Channel} → Unmoved c d → Knows all c → Knows all d
knows-still {all} p k =
    record {
      null_is = p.same-null ∙ k.null_is;
      written_is = written-still p (last_written all) k.written_is;
      loaded-is = loaded-still p all k.loaded-is;
    }

-- a whole count written: the mark is set, and the reload value is the count
pub knows-written : (all : List Happening) (count : ℕ) (d : Channel) → d.status.null_count ≡ true → d.load.reload_value ≡ count → Knows (written count ∷ all) d
knows-written all count d null reload = record { null_is = null; written_is = reload; loaded-is = tt }

-- a value moved, of a channel that did not wait for a count: it is what the reload value loads as, and the mark goes
pub record Moved (c d : Channel) : Type 0 where
  pub not-waiting : c.counter.channel_state ≡ WaitingForReload → ⊥
  pub null-gone : d.status.null_count ≡ false
  pub takes : d.counter.counting_element ≡ load_value c
  pub same-control : d.control ≡ c.control
  pub same-rules : d.reloading ≡ c.reloading
  pub same-reload : d.load.reload_value ≡ c.load.reload_value

written-moved : {c d : Channel} → Moved c d → (f : Fixed ℕ) → IsWritten f c → IsWritten f d
written-moved p left_open h = absurd (p.not-waiting h)
written-moved p (fixed_at count) h = p.same-reload ∙ h

loaded-moved : {c d : Channel} → Moved c d → (f : Fixed ℕ) → IsWritten f c → LoadsAs d.counter.counting_element f d
unfolding load_value
loaded-moved p left_open h = absurd (p.not-waiting h)
loaded-moved p (fixed_at count) h =
    p.takes ∙ (λ i. masked_in (sym p.same-control i).mode (h i) (sym p.same-rules i).load_mask)

pub knows_moved : (all : List Happening) {c d : Channel} → Moved c d → Knows all c → Knows (loaded d.counter.counting_element ∷ all) d
knows_moved all p k =
    record {
      null_is = p.null-gone;
      written_is = written-moved p (last_written all) k.written_is;
      loaded-is = loaded-moved p (last_written all) k.written_is;
    }
