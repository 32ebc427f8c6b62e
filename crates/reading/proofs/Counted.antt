-- What k counts come to for a reading, made by hand or by ticks and with other calls among them: nothing disturbed that a read goes by, and, where no tick loaded, the
-- counting element k steps on. Assumes nothing.
use Prim.Native.Nat.{ℕ, ◌+◌}
use mathlib.Core.Bool.{true, false}
use mathlib.Core.Path.{◌≡◌, refl, sym, ap, ◌∙◌}
use native.Mathlib.Nat.{add_comm}
use lib.Dec.{eqb}
use Rattle.numbers.specs.Times.{times}
use Rattle.numbers.proofs.Times.{times-add}
use Rattle.channel.specs.declared.Channel.{Channel}
use Rattle.channel.specs.declared.ControlWord.{ControlWord}
use Rattle.channel.specs.declared.Latch.{Latch}
use Rattle.channel.specs.declared.PitType.{PitType}
use Rattle.channel.specs.declared.Status.{Status}
use Rattle.channel.specs.Kept.{Kept}
use Rattle.count.specs.Step.{step_in}
use Rattle.count.specs.Count.{count}
use Rattle.count.proofs.Repeated.{control-kept, status-kept, element-after}
use Rattle.count.proofs.Held.{held_after, latched-after, half-after}
use Rattle.latch.specs.Label.{label_of}
use Rattle.load.specs.Cycle.{load_cycle}
use Rattle.load.proofs.Stays.{control-stays, latched-stays, half-stays, status-stays, held_stays}
use Rattle.tick.specs.Taken.{taken}
use Rattle.tick.specs.Loads.{loads}
use Rattle.tick.specs.Tick.{tick}
use Rattle.tick.proofs.Keeps.{tick-keeps}
use Rattle.tick.proofs.Counted.{counted-element}
use Rattle.reading.specs.Beginning.{may_begin}
use Rattle.reading.proofs.May.{none-held, not-latched, low-then-high, no-half-read, may-begin}

-- access, radix, half-read word, whether it is latched and a held status as they were, and a held latch too
pub record Undisturbed (c d : Channel) : Type 0 where
  pub same-control : d.control ≡ c.control
  pub same_half : d.latch.read_state ≡ c.latch.read_state
  pub same-latched : d.latch.count_is_latched ≡ c.latch.count_is_latched
  pub same-status : d.status.status_latch ≡ c.status.status_latch
  pub still-held : c.latch.count_is_latched ≡ true → d.latch ≡ c.latch

pub undisturbed-then : {c d e : Channel} → Undisturbed c d → Undisturbed d e → Undisturbed c e
undisturbed-then p q =
    record {
      same-control = q.same-control ∙ p.same-control;
      same_half = q.same_half ∙ p.same_half;
      same-latched = q.same-latched ∙ p.same-latched;
      same-status = q.same-status ∙ p.same-status;
      still-held = λ held. q.still-held (p.same-latched ∙ held) ∙ p.still-held held;
    }

pub undisturbed-none : (c : Channel) → Undisturbed c c
undisturbed-none c = record { same-control = refl; same_half = refl; same-latched = refl; same-status = refl; still-held = λ held. refl }

-- a load cycle disturbs nothing that a read goes by, though it may move the element
pub cycle-undisturbed : (c : Channel) → Undisturbed c (load_cycle c)
cycle-undisturbed c =
    record { same-control = control-stays c; same_half = half-stays c; same-latched = latched-stays c; same-status = status-stays c; still-held = held_stays c }

-- a read of the one says what a read of the other says
pub undisturbed-label : {c d : Channel} → Undisturbed c d → label_of d ≡ label_of c
unfolding label_of
undisturbed-label p = simp (p.same-control, p.same_half, p.same-latched, p.same-status)

-- a reading may begin where it could before
pub undisturbed-may : (c d : Channel) → Undisturbed c d → may_begin c ≡ true → may_begin d ≡ true
undisturbed-may c d p may =
    may-begin d (ap (λ (s : ℕ). eqb s 0) p.same-status ∙ none-held c may) (p.same-latched ∙ not-latched c may) (ap (λ (w : ControlWord). w.rw_mode) p.same-control ∙ low-then-high c may)
    (p.same_half ∙ no-half-read c may)

-- k counts, if what is said of loads holds; undisturbed in any case
pub record Counted (unloaded : Type 0) (k : ℕ) (c d : Channel) : Type 0 where
  pub undisturbed : Undisturbed c d
  pub stepped : unloaded → d.counter.counting_element ≡ times k (step_in c.control.bcd_mode) c.counter.counting_element

pub counted_none : {A : Type 0} (c : Channel) → Counted A 0 c c
counted_none c = record { undisturbed = undisturbed-none c; stepped = λ unloaded. refl }

-- what keeps the count and the latch makes no count
pub counted-kept : {A : Type 0} {c d : Channel} → Kept c d → Counted A 0 c d
counted-kept p =
    record {
      undisturbed = record {
        same-control = p.control-kept;
        same_half = ap (λ (l : Latch). l.read_state) p.latch-kept;
        same-latched = ap (λ (l : Latch). l.count_is_latched) p.latch-kept;
        same-status = p.status-latch-kept;
        still-held = λ held. p.latch-kept;
      };
      stepped = λ unloaded. p.element-kept;
    }

pub counted-when : {A B : Type 0} {k : ℕ} {c d : Channel} → (B → A) → Counted A k c d → Counted B k c d
counted-when so p = record { undisturbed = p.undisturbed; stepped = λ unloaded. p.stepped (so unloaded) }

pub counted-then : {A B : Type 0} (j k : ℕ) {c d e : Channel} → Counted A j c d → Counted B k d e → Counted (A × B) (j + k) c e
counted-then j k {c} {d} {e} p q =
    record {
      undisturbed = undisturbed-then p.undisturbed q.undisturbed;
      stepped =
          λ unloaded.
          q.stepped unloaded.1
          ∙ rw (p.undisturbed.same-control, p.stepped unloaded.0, add_comm j k)
          (sym (times-add k j (step_in c.control.bcd_mode) c.counter.counting_element));
    }

pub counted-counts : {A : Type 0} (k : ℕ) (c : Channel) → Counted A k c (times k count c)
counted-counts k c =
    record {
      undisturbed = record {
        same-control = control-kept k c;
        same_half = half-after k c;
        same-latched = latched-after k c;
        same-status = ap (λ (s : Status). s.status_latch) (status-kept k c);
        still-held = held_after k c;
      };
      stepped = λ unloaded. element-after k c;
    }

-- "a tick that takes k from a channel being k counts of it", unless it loads
pub counted-tick : (model : PitType) (c : Channel) → Counted (loads model c ≡ false) (taken c) c (tick model c)
counted-tick model c =
    let kept = tick-keeps model c in
    record {
      undisturbed = record {
        same-control = kept.control-kept;
        same_half = kept.half-kept;
        same-latched = kept.latched-kept;
        same-status = kept.status-latch-kept;
        still-held = kept.held_kept;
      };
      stepped = λ unloaded. counted-element model c unloaded ∙ element-after (taken c) c;
    }
