-- C1, W1: a byte written, in each access, is the first of two or completes a count; the channel stays in step with the sheets' counter. Assumes nothing.
use Prim.Native.Nat.{ℕ, ◌+◌, ◌*◌, ◌%◌, ◌<◌}
use mathlib.Core.Bool.{Bool, true, false, true≢false, false≢true, cond, ◌&&◌}
use mathlib.Core.Path.{◌≡◌, refl, sym, ap, ◌∙◌, subst}
use native.Mathlib.Nat.{mod-eq_of_lt}
use native.Mathlib.Omega.{arith}
use lib.Dec.{eqb}
use Rattle.channel.specs.declared.Channel.{Channel}
use Rattle.channel.specs.declared.ChannelMode.{ChannelMode}
use Rattle.channel.specs.declared.ChannelMode.TheVariants.{InterruptOnTerminalCount}
use Rattle.channel.specs.declared.LoadState.{LoadState}
use Rattle.channel.specs.declared.LoadState.TheVariants.{WaitingForLsb, WaitingForMsb}
use Rattle.channel.specs.declared.LoadType.{LoadType}
use Rattle.channel.specs.declared.LoadType.TheVariants.{InitialLoad, SubsequentLoad}
use Rattle.channel.specs.declared.PitType.{PitType}
use Rattle.channel.specs.declared.RwMode.{RwMode}
use Rattle.channel.specs.declared.RwMode.TheVariants.{Lsb, Msb, LsbMsb}
use Rattle.channel.specs.Modes.{mode_number}
use Rattle.channel.proofs.Modes.{every-mode}
use Rattle.channel.specs.Shared.{change_channel_state, change_output_state}
use Rattle.channel.proofs.Pick.{pick-holds}
use Rattle.load.specs.Finalize.{waiting_state, loads_again, complete_load, enter_after, finalize_load}
use Rattle.load.specs.Write.{put_register, stops_on_low_byte, stopped, begins_word, write_low, write_at, write_byte}
use Rattle.sheet.specs.ControlByte.{Access, low_byte, high_byte, low_then_high}
use Rattle.sheet.specs.Loading.{count_of}
use Rattle.sheet.specs.Ticking.{Chip}
use Rattle.sheet.specs.Counter.{Fixed, left_open, fixed_at, Phase, awaits_count, Counter, standing}
use Rattle.sheet.specs.CounterWrite.{output_on_count, output_on_first, complete, write_word, write_in}
use Rattle.agreement.specs.Words.{sheet_chip}
use Rattle.agreement.specs.Words.{sheet_access}
use Rattle.agreement.specs.Watching.{Watch, unprogrammed, watching, completes, count_phase, low_of, keeps_output, drops_output, makes_due, puts_off, watch_write, IsFixed}
use Rattle.agreement.proofs.Loading.{stops-agree}
use Rattle.agreement.proofs.TrackFirst.{begun_core, begun-core, begins}
use Rattle.agreement.proofs.TrackWrite.{done-core, writes-in}
use Rattle.agreement.proofs.Tracking.{core_of, first_of, view, Holds, Tracks, not_yet, tracked}

-- a write leaves the gate, and what the mode sets left for loads
abbrev Left : Channel → Channel → Type 0
Left c d = (d.pins.gate ≡ c.pins.gate) × (d.reloading ≡ c.reloading)

left_after : (t : LoadType) (defer : Bool) (c : Channel) → Left c (enter_after t defer c)
unfolding change_channel_state
left_after InitialLoad defer c = (refl, refl)
left_after SubsequentLoad defer c = pick-holds (Left c) (loads_again c.control.mode) (change_channel_state c (waiting_state defer)) c (refl, refl) (refl, refl)

left-whole : (c : Channel) (w : ℕ) (s : LoadState) (defer : Bool) → Left c (finalize_load (put_register c w s) defer)
unfolding finalize_load complete_load put_register
left-whole c w s defer = left_after c.load.load_type defer (complete_load (put_register c w s))

left-first : (c : Channel) (byte : ℕ) → Left c (write_low c byte)
unfolding put_register change_channel_state change_output_state
left-first c byte =
    pick-holds (Left c) (stops_on_low_byte c.control.mode) (stopped (put_register c byte WaitingForMsb)) (put_register c byte WaitingForMsb) (refl, refl) (refl, refl)

left : (c : Channel) (byte : ℕ) (defer : Bool) → Left c (write_byte c byte defer)
unfolding write_byte
left c byte defer =
    pick-holds (Left c) (begins_word c.control.rw_mode c.load.load_state) (write_low c byte) _ (left-first c byte) (left-whole c _ _ defer)

low-not : Lsb ≡ LsbMsb → ⊥
low-not is = true≢false (ap one_byte is)
  where
    one_byte : RwMode → Bool
    one_byte Lsb = true
    one_byte Msb = true
    one_byte LsbMsb = false

high-not : Msb ≡ LsbMsb → ⊥
high-not is = true≢false (ap one_byte is)
  where
    one_byte : RwMode → Bool
    one_byte Lsb = true
    one_byte Msb = true
    one_byte LsbMsb = false

pub low_first : WaitingForLsb ≡ WaitingForMsb → ⊥
low_first is = true≢false (ap waits-low is)
  where
    waits-low : LoadState → Bool
    waits-low WaitingForLsb = true
    waits-low WaitingForMsb = false

zero_of : (m : ChannelMode) → eqb (mode_number m) 0 ≡ true → m ≡ InterruptOnTerminalCount
zero_of =
    every-mode (λ (m : ChannelMode). eqb (mode_number m) 0 ≡ true → m ≡ InterruptOnTerminalCount)
    (λ z. refl) (λ z. absurd (false≢true z)) (λ z. absurd (false≢true z)) (λ z. absurd (false≢true z)) (λ z. absurd (false≢true z)) (λ z. absurd (false≢true z))

module _ (model : PitType) (one : Fixed Bool) (o : Fixed Bool) (v : Fixed ℕ) (p : Phase) (late : Bool) (c : Channel) (h : Holds model p o v late one (core_of c))
    (byte : ℕ) (small : byte < 256) (defer : Bool) where
  abbrev chip : Chip
  chip = sheet_chip model

  abbrev mode : ℕ
  mode = mode_number c.control.mode

  abbrev counter : Counter
  counter = view (core_of c) p o v

  -- the sheets' counter with a byte written, in an access, with this first byte there
  abbrev write_to : Access → Fixed ℕ → Counter
  write_to low_byte first = complete counter (count_of byte 0)
  write_to high_byte first = complete counter (count_of 0 byte)
  write_to low_then_high first = write_word chip first counter byte

  same_write : (a : Access) → write_to a counter.first ≡ write_in a chip counter byte
  same_write low_byte = refl
  same_write high_byte = refl
  same_write low_then_high = refl

  abbrev watched_by : Access → Fixed ℕ → Counter → Watch
  watched_by a first k =
      watching
      (standing k
      (cond (completes a first) (count_phase chip defer mode one (low_of a first byte) p) k.phase)
      (cond (keeps_output a mode) o (cond (drops_output a first mode) (fixed_at false) k.output))
      k.value)
      (cond (completes a first && makes_due mode p) (puts_off defer mode p one) late)
      one

  abbrev watched : Access → Fixed ℕ → Watch
  watched a first = watched_by a first (write_to a first)

  -- a complete count, in the sheets' counter and in the record's
  abbrev whole_at : Fixed ℕ → ℕ → Phase → Fixed Bool → Fixed ℕ → Counter
  whole_at first w q o' v' =
      record {
        access = sheet_access c.control.rw_mode;
        mode = mode;
        bcd = c.control.bcd_mode;
        first = first;
        count = fixed_at w;
        gate = c.pins.gate;
        phase = q;
        output = o';
        value = v';
      }

  abbrev whole : Fixed ℕ → ℕ → ℕ → Fixed Bool → Watch
  whole first w x o' =
      watching
      (whole_at first w (count_phase chip defer mode one x p) o' v)
      (cond (makes_due mode p) (puts_off defer mode p one) late)
      one

  completing : (w x : ℕ) (s : LoadState) → w < 65536 → w % 2 ≡ x % 2 → (c.control.rw_mode ≡ LsbMsb → s ≡ WaitingForMsb → ⊥)
      → first_of c.control.rw_mode s w ≡ left_open → (o' : Fixed Bool) → IsFixed o' c.pins.output → (written : ℕ) → w ≡ written
      → Tracks model (whole left_open written x o') (core_of (finalize_load (put_register c w s) defer))
  completing w x s below parity over none o' output written is =
      subst (λ (n : ℕ). Tracks model (whole left_open n x o') (core_of (finalize_load (put_register c w s) defer))) is
      (subst (λ (f : Fixed ℕ). Tracks model (whole f w x o') (core_of (finalize_load (put_register c w s) defer))) none
      (subst (Tracks model (whole (first_of c.control.rw_mode s w) w x o')) (sym (done-core c w s defer c.load.load_type refl))
      (writes-in model one v late (core_of c) h.rules h.value-is w x s defer below parity over o' output c.control.mode refl p h.phase-is)))

  -- S7: with one_byte access the output stays
  one_byte : (z : Bool) → IsFixed (cond z o (cond z (fixed_at false) o)) c.pins.output
  one_byte true = h.output-is
  one_byte false = h.output-is

  -- .. and with two it has fallen with the first
  two-bytes : c.control.rw_mode ≡ LsbMsb → c.load.load_state ≡ WaitingForMsb → (z : Bool) → eqb mode 0 ≡ z
      → IsFixed (cond z (fixed_at false) o) c.pins.output
  two-bytes both waits true is = (h.rules.half both (zero_of c.control.mode is) waits).1
  two-bytes both waits false is = h.output-is

  abbrev After : Access → Fixed ℕ → Type 0
  After a first = Tracks model (watched a first) (core_of (write_byte c byte defer))

  low-writes : c.control.rw_mode ≡ Lsb → After low_byte left_open
  unfolding write_byte
  low-writes access =
      subst (λ (a : RwMode). Tracks model (watched low_byte left_open) (core_of (write_at a c.load.load_state c byte defer))) (sym access)
      (completing byte byte c.load.load_state (omega arith) refl (λ both waits. low-not (sym access ∙ both))
      (ap (λ (a : RwMode). first_of a c.load.load_state byte) access)
      (cond (eqb mode 0) o (output_on_count mode o))
      (one_byte (eqb mode 0)) (count_of byte 0) (omega arith))

  high-writes : c.control.rw_mode ≡ Msb → After high_byte left_open
  unfolding write_byte
  high-writes access =
      subst (λ (a : RwMode). Tracks model (watched high_byte left_open) (core_of (write_at a c.load.load_state c byte defer))) (sym access)
      (completing (byte * 256) 0 c.load.load_state (omega arith) (omega arith) (λ both waits. high-not (sym access ∙ both))
      (ap (λ (a : RwMode). first_of a c.load.load_state (byte * 256)) access)
      (cond (eqb mode 0) o (output_on_count mode o))
      (one_byte (eqb mode 0)) (count_of 0 byte) (omega arith))

  second-writes : c.control.rw_mode ≡ LsbMsb → c.load.load_state ≡ WaitingForMsb → After low_then_high (fixed_at (c.load.count_register % 256))
  unfolding write_byte
  second-writes both waits =
      subst
      (λ (a : RwMode). Tracks model (watched low_then_high (fixed_at (c.load.count_register % 256))) (core_of (write_at a c.load.load_state c byte defer)))
      (sym both)
      (subst
      (λ (s : LoadState). Tracks model (watched low_then_high (fixed_at (c.load.count_register % 256))) (core_of (write_at LsbMsb s c byte defer)))
      (sym waits)
      (completing (c.load.count_register % 256 + byte * 256) (c.load.count_register % 256) WaitingForLsb (omega arith) (omega arith)
      (λ both waits. low_first waits)
      (ap (λ (a : RwMode). first_of a WaitingForLsb (c.load.count_register % 256 + byte * 256)) both)
      (output_on_count mode o)
      (two-bytes both waits (eqb mode 0) refl) (count_of (c.load.count_register % 256) byte) (omega arith)))

  first-writes : c.control.rw_mode ≡ LsbMsb → c.load.load_state ≡ WaitingForLsb → After low_then_high left_open
  first-writes both waits =
      subst (Tracks model (watched low_then_high left_open)) (sym (begun-core c byte defer (stops_on_low_byte c.control.mode) both waits refl))
      (subst
      (λ (w : Watch). Tracks model w (begun_core byte (stops_on_low_byte c.control.mode) (core_of c)))
      same
      (begins model (core_of c) byte one o v p late h (stops_on_low_byte c.control.mode) refl))
    where
      -- the sheets' first byte and the record's
      begun_at : Fixed ℕ → Bool → Fixed Bool → Watch
      begun_at first stops output =
          watching
          (record {
            access = sheet_access c.control.rw_mode;
            mode = mode;
            bcd = c.control.bcd_mode;
            first = first;
            count = counter.count;
            gate = c.pins.gate;
            phase = cond stops awaits_count p;
            output = output;
            value = v;
          })
          late
          one

      first-is : first_of c.control.rw_mode WaitingForMsb byte ≡ fixed_at byte
      first-is = ap (λ (a : RwMode). first_of a WaitingForMsb byte) both ∙ ap (λ (b : ℕ). fixed_at b) (mod-eq_of_lt small)

      dropped : (b : Bool) → cond b (fixed_at false) o ≡ cond b (fixed_at false) (cond b (output_on_first chip o) o)
      dropped true = refl
      dropped false = refl

      same : begun_at (first_of c.control.rw_mode WaitingForMsb byte) (stops_on_low_byte c.control.mode) (cond (stops_on_low_byte c.control.mode) (fixed_at false) o)
          ≡ watched low_then_high left_open
      same =
          ap (λ (f : Fixed ℕ). begun_at f (stops_on_low_byte c.control.mode) (cond (stops_on_low_byte c.control.mode) (fixed_at false) o)) first-is
          ∙ ap (λ (stops : Bool). begun_at (fixed_at byte) stops (cond stops (fixed_at false) o)) (stops-agree c.control.mode)
          ∙ ap (begun_at (fixed_at byte) (eqb mode 0)) (dropped (eqb mode 0))

  writes-by : (a : RwMode) (s : LoadState) → c.control.rw_mode ≡ a → c.load.load_state ≡ s
      → After (sheet_access c.control.rw_mode) (first_of c.control.rw_mode c.load.load_state c.load.count_register)
  writes-by Lsb s access state =
      subst (λ (a : RwMode). After (sheet_access a) (first_of a c.load.load_state c.load.count_register)) (sym access) (low-writes access)
  writes-by Msb s access state =
      subst (λ (a : RwMode). After (sheet_access a) (first_of a c.load.load_state c.load.count_register)) (sym access) (high-writes access)
  writes-by LsbMsb WaitingForLsb access state =
      subst (λ (a : RwMode). After (sheet_access a) (first_of a c.load.load_state c.load.count_register)) (sym access)
      (subst (λ (s : LoadState). After low_then_high (first_of LsbMsb s c.load.count_register)) (sym state) (first-writes access state))
  writes-by LsbMsb WaitingForMsb access state =
      subst (λ (a : RwMode). After (sheet_access a) (first_of a c.load.load_state c.load.count_register)) (sym access)
      (subst (λ (s : LoadState). After low_then_high (first_of LsbMsb s c.load.count_register)) (sym state) (second-writes access state))

  pub writes : Tracks model (watch_write chip defer (watching counter late one) byte) (core_of (write_byte c byte defer))
  writes =
      subst (λ (k : Counter). Tracks model (watched_by (sheet_access c.control.rw_mode) counter.first k) (core_of (write_byte c byte defer)))
      (same_write (sheet_access c.control.rw_mode))
      (writes-by c.control.rw_mode c.load.load_state refl refl)

pub write-tracks : (model : PitType) (w : Watch) (c : Channel) (byte : ℕ) (defer : Bool) → byte < 256 → Tracks model w (core_of c)
    → Tracks model (watch_write (sheet_chip model) defer w byte) (core_of (write_byte c byte defer))
write-tracks model w c byte defer small (not_yet one is rule) =
    not_yet one (ap (λ (x : Watch). watch_write (sheet_chip model) defer x byte) is ∙ ap (λ (g : Bool). unprogrammed g one) (sym (left c byte defer).0))
    (rw (left c byte defer).1 rule)
write-tracks model w c byte defer small (tracked p o v late one is h) =
    subst (λ (x : Watch). Tracks model (watch_write (sheet_chip model) defer x byte) (core_of (write_byte c byte defer))) (sym is)
    (writes model one o v p late c h byte small defer)
