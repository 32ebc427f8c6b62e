-- The sheets' counter after a mode set, the bytes of a count and, where the mode wants one, a trigger: a load is due, with the next tick or with the one after it
-- where the board defers. Assumes nothing.
use Prim.Native.Nat.{ℕ}
use mathlib.Core.Bool.{Bool, true, false, true≢false, false≢true, not, cond, ◌&&◌, ◌||◌}
use mathlib.Core.List.{List, [], ◌∷◌}
use mathlib.Core.Path.{◌≡◌, refl, ap, ◌∙◌}
use lib.Dec.{eqb}
use Rattle.channel.specs.declared.ChannelMode.{ChannelMode}
use Rattle.channel.specs.Modes.{mode_number}
use Rattle.channel.proofs.Modes.{every-mode}
use Rattle.channel.proofs.Pick.{pick_same}
use Rattle.sheet.specs.ControlByte.{Access, low_byte, high_byte, low_then_high}
use Rattle.sheet.specs.Gate.{fall_effect, rise_effect}
use Rattle.sheet.specs.Loading.{count_of, first_byte_stops}
use Rattle.sheet.specs.Ticking.{Chip}
use Rattle.sheet.specs.Counter.{Fixed, left_open, fixed_at, Phase, awaits_count, loading, Counter, programmed}
use Rattle.sheet.specs.CounterWrite.{output_on_count, output_on_first}
use Rattle.sheet.specs.CounterGate.{edge}
use Rattle.agreement.specs.Watching.{Watch, unprogrammed, watching, one_now, gate_of, watch_program, after_fall, edged, watch_gate, keeps_output, first_phase, makes_due, puts_off, watch_write}
use Rattle.agreement.proofs.Departures.{first_plain}
use Rattle.waveform.specs.Opened.{bytes_in, written_in, trigger_starts, after_one, tick_open}

-- what is heard of the bytes and of the trigger
abbrev pub bytes_heard : Chip → Bool → List ℕ → Watch → Watch
bytes_heard chip defer [] w = w
bytes_heard chip defer (byte ∷ bytes) w = bytes_heard chip defer bytes (watch_write chip defer w byte)

abbrev pub trigger_heard : Bool → Watch → Watch
trigger_heard true w = watch_gate (watch_gate w false) true
trigger_heard false w = w

abbrev pub opening_heard : Chip → Bool → Access → ℕ → Bool → ℕ → ℕ → Watch → Watch
opening_heard chip defer access mode bcd low high w =
    trigger_heard (trigger_starts mode) (bytes_heard chip defer (bytes_in access low high) (watch_program (watch_gate w true) access mode bcd))

-- the gate is high when the mode is set
raised_by : (was : Bool) (k : Counter) → k.gate ≡ was → (edged was true k (edge was true k)).gate ≡ true
raised_by true k is = is
raised_by false k is = refl

pub raised : (w : Watch) → gate_of (watch_gate w true) ≡ true
raised (unprogrammed gate one) = refl
raised (watching k late one) = raised_by k.gate k refl

pub same-one : (w : Watch) (level : Bool) → after_one (watch_gate w level) ≡ after_one w
same-one (unprogrammed gate one) level = refl
same-one (watching k late one) level = refl

pub starts : (w : Watch) (access : Access) (mode : ℕ) (bcd : Bool)
    → watch_program w access mode bcd ≡ watching (programmed (gate_of w) access mode bcd) false (one_now mode (after_one w))
starts (unprogrammed gate one) access mode bcd = refl
starts (watching k late one) access mode bcd = refl

-- what the tables say of a mode that a trigger starts, and of the others
trigger-loads : (m : ChannelMode) → trigger_starts (mode_number m) ≡ true → (rise_effect (mode_number m)).loads ≡ true
trigger-loads =
    every-mode (λ (m : ChannelMode). trigger_starts (mode_number m) ≡ true → (rise_effect (mode_number m)).loads ≡ true)
    (λ t. absurd (false≢true t)) (λ t. refl) (λ t. refl) (λ t. refl) (λ t. absurd (false≢true t)) (λ t. refl)

four-first : (defer : Bool) (one : Fixed Bool) → tick_open defer 4 one ≡ false → first_phase defer 4 one ≡ loading
four-first true left_open fine = absurd (true≢false fine)
four-first false left_open fine = refl
four-first defer (fixed_at known) fine = refl

first-loads : (defer : Bool) (one : Fixed Bool) (m : ChannelMode) → trigger_starts (mode_number m) ≡ false → tick_open defer (mode_number m) one ≡ false
    → first_phase defer (mode_number m) one ≡ loading
first-loads defer one =
    every-mode (λ (m : ChannelMode). trigger_starts (mode_number m) ≡ false → tick_open defer (mode_number m) one ≡ false → first_phase defer (mode_number m) one ≡ loading)
    (λ t fine. first_plain defer 0 one refl refl)
    (λ t fine. absurd (true≢false t))
    (λ t fine. first_plain defer 2 one refl refl)
    (λ t fine. first_plain defer 3 one refl refl)
    (λ t fine. four-first defer one fine)
    (λ t fine. absurd (true≢false t))

always-due : (mode : ℕ) → makes_due mode awaits_count ≡ true
always-due mode = go (eqb mode 0) (eqb mode 4)
  where
    go : (a b : Bool) → (a || (b || true)) ≡ true
    go true b = refl
    go false true = refl
    go false false = refl

module _ (chip : Chip) (defer : Bool) (m : ChannelMode) (bcd : Bool) (one : Fixed Bool) (fine : tick_open defer (mode_number m) one ≡ false) where
  abbrev mode : ℕ
  mode = mode_number m

  abbrev counter : Access → Fixed ℕ → Fixed ℕ → Phase → Fixed Bool → Counter
  counter access first count p o =
      record { access = access; mode = mode; bcd = bcd; first = first; count = count; gate = true; phase = p; output = o; value = left_open }

  abbrev late : Bool
  late = puts_off defer mode awaits_count one

  -- the byte or bytes of a count
  abbrev written : Access → ℕ → Fixed Bool → Counter
  written access w o = counter access left_open (fixed_at w) (first_phase defer mode one) o

  made-due : (k : Counter) → watching k (cond (makes_due mode awaits_count) late false) one ≡ watching k late one
  made-due k = ap (λ (b : Bool). watching k (cond b late false) one) (always-due mode)

  abbrev first_output : Fixed Bool → Fixed Bool
  first_output o = cond (eqb mode 0) (fixed_at false) (cond (first_byte_stops mode) (output_on_first chip o) o)

  first_byte : (x : ℕ) (o : Fixed Bool)
      → watch_write chip defer (watching (counter low_then_high left_open left_open awaits_count o) false one) x
      ≡ watching (counter low_then_high (fixed_at x) left_open awaits_count (first_output o)) false one
  first_byte x o =
      ap (λ (p : Phase). watching (counter low_then_high (fixed_at x) left_open p (first_output o)) false one) (pick_same (first_byte_stops mode) awaits_count)

  -- the output that the bytes leave
  abbrev output_in : Access → Fixed Bool → Fixed Bool
  output_in access o = cond (keeps_output access mode) o (output_on_count mode o)

  abbrev output_then : Access → Fixed Bool → Fixed Bool
  output_then low_byte o = output_in low_byte o
  output_then high_byte o = output_in high_byte o
  output_then low_then_high o = output_in low_then_high (first_output o)

  bytes-written : (access : Access) (low high : ℕ) (o : Fixed Bool)
      → bytes_heard chip defer (bytes_in access low high) (watching (counter access left_open left_open awaits_count o) false one)
      ≡ watching (written access (written_in access low high) (output_then access o)) late one
  bytes-written low_byte low high o = made-due (written low_byte (count_of low 0) (output_in low_byte o))
  bytes-written high_byte low high o = made-due (written high_byte (count_of 0 high) (output_in high_byte o))
  bytes-written low_then_high low high o =
      ap (λ (w : Watch). watch_write chip defer w high) (first_byte low o)
      ∙ made-due (written low_then_high (count_of low high) (output_in low_then_high (first_output o)))

  -- the trigger, whatever the count has led to: S5's load without one is begun again
  pulled : (access : Access) (w : ℕ) (p : Phase) (o : Fixed Bool)
      → trigger_heard true (watching (counter access left_open (fixed_at w) p o) late one)
      ≡ watching
      (counter access left_open (fixed_at w) (cond (rise_effect mode).loads loading (after_fall mode p)) (cond (fall_effect mode).raises (fixed_at true) o))
      (cond (rise_effect mode).loads false late) one
  pulled access w p o = refl

  triggered-by : (t : Bool) → trigger_starts mode ≡ t → (access : Access) (w : ℕ) (o : Fixed Bool)
      → (o' : Fixed Bool)
      × (trigger_heard t (watching (written access w o) late one) ≡ watching (counter access left_open (fixed_at w) loading o') (not t && late) one)
  triggered-by true is access w o = (
    cond (fall_effect mode).raises (fixed_at true) o,
    pulled access w (first_phase defer mode one) o ∙ rw (trigger-loads m is) refl,
  )
  triggered-by false is access w o = (
    o,
    ap (λ (p : Phase). watching (counter access left_open (fixed_at w) p o) late one) (first-loads defer one m is fine),
  )

  -- all of it
  pub opened : (access : Access) (low high : ℕ) (o : Fixed Bool)
      → (o' : Fixed Bool)
      × (trigger_heard (trigger_starts mode) (bytes_heard chip defer (bytes_in access low high) (watching (counter access left_open left_open awaits_count o) false one))
      ≡ watching (counter access left_open (fixed_at (written_in access low high)) loading o') (not (trigger_starts mode) && late) one)
  opened access low high o =
      let t = triggered-by (trigger_starts mode) refl access (written_in access low high) (output_then access o) in
      (t.0, ap (trigger_heard (trigger_starts mode)) (bytes-written access low high o) ∙ t.1)
