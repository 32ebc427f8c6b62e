-- From the port to the pin: what a channel shows after the opening, over all that its pins do. Assumes nothing.
use Prim.Native.Nat.{ℕ, zero, suc, ◌+◌, ◌<◌, ◌≤◌}
use mathlib.Core.Bool.{Bool, true, false, not, cond, ◌&&◌}
use mathlib.Core.List.{List, [], ◌∷◌, ◌++◌}
use mathlib.Core.Logic.{◌⊎◌}
use mathlib.Core.Path.{◌≡◌, refl, sym, ap, ◌∙◌, subst}
use native.Mathlib.Omega.{arith}
use lib.Dec.{eqb}
use borrow.Author.Tests.{eq-eqb, ne_eqb}
use Rattle.numbers.specs.Times.{times}
use Rattle.refusal.specs.Reply.{Reply}
use Rattle.channel.specs.declared.ChannelMode.{ChannelMode}
use Rattle.channel.specs.declared.PitType.{PitType}
use Rattle.channel.specs.Modes.{mode_number}
use Rattle.channel.specs.Queries.{does_retrigger}
use Rattle.channel.proofs.Modes.{every-mode}
use Rattle.board.specs.declared.Board.{Board}
use Rattle.board.specs.Board.{channel_at}
use Rattle.board.specs.Outcome.{Value}
use Rattle.step.specs.Operation.{Operation, WritePort}
use Rattle.step.specs.Accepted.{IsAccepted, AllAccepted, unless_refused}
use Rattle.step.specs.Step.{step, steps}
use Rattle.step.proofs.Accepted.{steps-both, by-reply}
use Rattle.step.proofs.Kept.{settings-kept}
use Rattle.sheet.specs.ControlByte.{Access, low_byte, high_byte, low_then_high, Request, program, request_of}
use Rattle.sheet.specs.Gate.{fall_effect, rise_effect}
use Rattle.sheet.specs.Output.{output_after_mode_set}
use Rattle.sheet.specs.Ticking.{Chip, held, down_value, value_after, output_after, smallest}
use Rattle.sheet.specs.Counter.{Fixed, left_open, fixed_at, awaits_count, loading, counting, programmed}
use Rattle.sheet.specs.CounterTick.{number_written, at}
use Rattle.agreement.specs.Words.{sheet_chip}
use Rattle.agreement.specs.Watching.{Watch, watching, one_now, watch_program, watch_gate, watch_write, puts_off, ShowsIn}
use Rattle.agreement.proofs.Written.{legal-number}
use Rattle.waveform.specs.Follows.{Starts}
use Rattle.waveform.specs.Heard.{heard_control, catches_up, heard_of, hears, defers_after, defers_over, watch_over, OnlyBytes}
use Rattle.waveform.specs.Opened.{bytes_in, written_in, trigger_starts, gate_call, byte_calls, trigger_calls, opening, after_one, Opened, before, after, late_ticks}
use Rattle.waveform.specs.Pin.{AtThePin, paused_output, PortToPin, GatePauses, TriggerRestarts, FallHolds}
use Rattle.waveform.specs.Pins.{Pulse, gate_at, clocks, pins_over, pulsed, clocks_in, last_level, Undisturbed, high_clocks, last_counted}
use Rattle.waveform.proofs.Follows.{follows}
use Rattle.waveform.proofs.Opening.{bytes_heard, trigger_heard, opening_heard, raised, same-one, starts, opened}
use Rattle.waveform.proofs.Pauses.{paused, either-pauses, load-output, load-value, held_by}
use Rattle.waveform.proofs.Pins.{pulsed-both, over-pins}
use Rattle.waveform.proofs.Running.{place_of, output-place, value-place, first-place}
use Rattle.waveform.proofs.Stages.{Stage, due, run, next, run-after, late-after, Wanted, counter, running, IsAt, stages}
use Rattle.waveform.proofs.Written.{Written, written_on}

-- one list after another
over-both : (i : ℕ) (b : Board) (os ps : List Operation) (d : Bool) (w : Watch)
    → watch_over i b (os ++ ps) d w ≡ watch_over i (steps b os) ps (defers_over b os d) (watch_over i b os d w)
over-both i b [] ps d w = refl
over-both i b (o ∷ os) ps d w = over-both i (step b o).board os ps (defers_after b o d) (hears i b d o w)

bytes-both : (os ps : List Operation) → OnlyBytes os → OnlyBytes ps → OnlyBytes (os ++ ps)
bytes-both [] ps small others = others
bytes-both (o ∷ os) ps small others = (small.0, bytes-both os ps small.1 others)

-- an accepted call is heard
taken : (i : ℕ) (b : Board) (d : Bool) (o : Operation) (w : Watch) → IsAccepted b o → hears i b d o w ≡ heard_of i b d o w
taken i b d o w took = ap (λ (reply : Reply Value). unless_refused reply w (heard_of i b d o w)) took.1

both-accepted : (b : Board) (os ps : List Operation) → AllAccepted b (os ++ ps) → AllAccepted b os × AllAccepted (steps b os) ps
both-accepted b [] ps took = (tt, took)
both-accepted b (o ∷ os) ps took =
    let rest = both-accepted (step b o).board os ps took.1 in
    ((took.0, rest.0), rest.1)

steps-model : (b : Board) (os : List Operation) → (steps b os).model ≡ b.model
steps-model b [] = refl
steps-model b (o ∷ os) = steps-model (step b o).board os ∙ (settings-kept b o).0

-- but for a catch-up the board defers as it did
same-defer : (b : Board) (o : Operation) (d : Bool) → catches_up o ≡ false → defers_after b o d ≡ d
same-defer b o d other =
    by-reply b o (λ (reply : Reply Value). unless_refused reply d (cond (catches_up o) true d) ≡ d) (λ number e. refl) (λ value e. ap (λ (t : Bool). cond t true d) other)

module _ (i : ℕ) (on : i < 3) (events : List ℕ) (place : ℕ) (d : Bool) where
  own : eqb i i ≡ true
  own = eq-eqb i i refl

  gate-heard : (b : Board) (level : Bool) (w : Watch) → IsAccepted b (gate_call i events place level) → hears i b d (gate_call i events place level) w ≡ watch_gate w level
  gate-heard b level w took =
      taken i b d (gate_call i events place level) w took ∙ ap (λ (t : Bool). cond t (watch_gate w level) w) own

  byte-heard : (b : Board) (byte : ℕ) (w : Watch) → IsAccepted b (WritePort (0x40 + i) byte events place)
      → hears i b d (WritePort (0x40 + i) byte events place) w ≡ watch_write (sheet_chip b.model) d w byte
  byte-heard b byte w took =
      taken i b d (WritePort (0x40 + i) byte events place) w took
      ∙ ap (λ (t : Bool). cond t (watch_write (sheet_chip b.model) d w byte) (cond (eqb (0x40 + i) 0x43) (heard_control i (request_of byte) w) w))
      (eq-eqb (0x40 + i) (0x40 + i) refl)

  control-heard : (b : Board) (control : ℕ) (access : Access) (mode : ℕ) (bcd : Bool) (w : Watch) → request_of control ≡ program i access mode bcd
      → IsAccepted b (WritePort 0x43 control events place) → hears i b d (WritePort 0x43 control events place) w ≡ watch_program w access mode bcd
  control-heard b control access mode bcd w is took =
      taken i b d (WritePort 0x43 control events place) w took
      ∙ ap (λ (t : Bool). cond t (watch_write (sheet_chip b.model) d w control) (heard_control i (request_of control) w)) (ne_eqb 0x43 (0x40 + i) (λ q. omega arith))
      ∙ ap (λ (r : Request). heard_control i r w) is
      ∙ ap (λ (t : Bool). cond t (watch_program w access mode bcd) w) own

  -- one call before others
  call-first : (b : Board) (o : Operation) (os : List Operation) (w v : Watch) → catches_up o ≡ false → hears i b d o w ≡ v
      → watch_over i b (o ∷ os) d w ≡ watch_over i (step b o).board os d v
  call-first b o os w v other is =
      ap (λ (e : Bool). watch_over i (step b o).board os e (hears i b d o w)) (same-defer b o d other) ∙ ap (watch_over i (step b o).board os d) is

  -- the bytes
  bytes-defer : (b : Board) (bytes : List ℕ) → defers_over b (byte_calls i events place bytes) d ≡ d
  bytes-defer b [] = refl
  bytes-defer b (byte ∷ bytes) =
      let call = WritePort (0x40 + i) byte events place in
      ap (defers_over (step b call).board (byte_calls i events place bytes)) (same-defer b call d refl) ∙ bytes-defer (step b call).board bytes

  over-bytes : (b : Board) (bytes : List ℕ) (w : Watch) → AllAccepted b (byte_calls i events place bytes)
      → watch_over i b (byte_calls i events place bytes) d w ≡ bytes_heard (sheet_chip b.model) d bytes w
  over-bytes b [] w took = refl
  over-bytes b (byte ∷ bytes) w took =
      let call = WritePort (0x40 + i) byte events place in
      let then = watch_write (sheet_chip b.model) d w byte in
      call-first b call (byte_calls i events place bytes) w then refl (byte-heard b byte w took.0)
      ∙ over-bytes (step b call).board bytes then took.1
      ∙ ap (λ (model : PitType). bytes_heard (sheet_chip model) d bytes then) (settings-kept b call).0

  over-trigger : (b : Board) (t : Bool) (w : Watch) → AllAccepted b (trigger_calls i events place t) → watch_over i b (trigger_calls i events place t) d w ≡ trigger_heard t w
  over-trigger b true w took =
      call-first b (gate_call i events place false) (gate_call i events place true ∷ []) w (watch_gate w false) refl (gate-heard b false w took.0)
      ∙ gate-heard (step b (gate_call i events place false)).board true (watch_gate w false) took.1.0
  over-trigger b false w took = refl

  -- all of the opening
  over-opening : (b : Board) (control : ℕ) (access : Access) (mode : ℕ) (bcd : Bool) (low high : ℕ) (w : Watch) → request_of control ≡ program i access mode bcd
      → AllAccepted b (opening i events place control access mode low high)
      → watch_over i b (opening i events place control access mode low high) d w ≡ opening_heard (sheet_chip b.model) d access mode bcd low high w
  over-opening b control access mode bcd low high w is took =
      let first = gate_call i events place true in
      let set = WritePort 0x43 control events place in
      let b₁ = (step b first).board in
      let b₂ = (step b₁ set).board in
      let bytes = byte_calls i events place (bytes_in access low high) in
      let trigger = trigger_calls i events place (trigger_starts mode) in
      let split = both-accepted b₂ bytes trigger took.1.1 in
      let raised-one = watch_gate w true in
      let v = watch_program raised-one access mode bcd in
      call-first b first (set ∷ bytes ++ trigger) w raised-one refl (gate-heard b true w took.0)
      ∙ call-first b₁ set (bytes ++ trigger) raised-one v refl (control-heard b₁ control access mode bcd raised-one is took.1.0)
      ∙ over-both i b₂ bytes trigger d v
      ∙ ap (λ (e : Bool). watch_over i (steps b₂ bytes) trigger e (watch_over i b₂ bytes d v)) (bytes-defer b₂ (bytes_in access low high))
      ∙ over-trigger (steps b₂ bytes) (trigger_starts mode) (watch_over i b₂ bytes d v) split.1
      ∙ ap (trigger_heard (trigger_starts mode))
      (over-bytes b₂ (bytes_in access low high) v split.0
      ∙ ap (λ (model : PitType). bytes_heard (sheet_chip model) d (bytes_in access low high) v) ((settings-kept b₁ set).0 ∙ (settings-kept b first).0))

  small_bytes : (access : Access) (low high : ℕ) → low < 256 → high < 256 → OnlyBytes (byte_calls i events place (bytes_in access low high))
  small_bytes low_byte low high l h = (l, tt)
  small_bytes high_byte low high l h = (h, tt)
  small_bytes low_then_high low high l h = (l, (h, tt))

  small-trigger : (t : Bool) → OnlyBytes (trigger_calls i events place t)
  small-trigger true = (tt, (tt, tt))
  small-trigger false = tt

-- the counter that a mode set of the sheets' counter starts, the gate being high
set-high : (w : Watch) (access : Access) (mode : ℕ) (bcd : Bool)
    → watch_program (watch_gate w true) access mode bcd ≡ watching (programmed true access mode bcd) false (one_now mode (after_one w))
set-high w access mode bcd =
    starts (watch_gate w true) access mode bcd
    ∙ ap (λ (g : Bool). watching (programmed g access mode bcd) false (one_now mode (after_one (watch_gate w true)))) (raised w)
    ∙ ap (λ (one : Fixed Bool). watching (programmed true access mode bcd) false (one_now mode one)) (same-one w true)

above_zero : (m : ChannelMode) (n : ℕ) → smallest (mode_number m) ≤ n → 0 < n
above_zero m n = every-mode (λ (x : ChannelMode). smallest (mode_number x) ≤ n → 0 < n) (λ l. omega arith) (λ l. omega arith) (λ l. omega arith) (λ l. omega arith) (λ l. omega arith) (λ l. omega arith) m

-- ticks alone
clocks-in : (k : ℕ) → clocks_in (clocks k) ≡ k
clocks-in zero = refl
clocks-in (suc k) = ap suc (clocks-in k)

clocks-steady : (stops gate : Bool) (k : ℕ) → Undisturbed stops gate (clocks k)
clocks-steady stops gate zero = tt
clocks-steady stops gate (suc k) = clocks-steady stops gate k

clocks-level : (gate : Bool) (k : ℕ) → last_level gate (clocks k) ≡ gate
clocks-level gate zero = refl
clocks-level gate (suc k) = clocks-level gate k

always-wanted : (stops : Bool) → Wanted stops true
always-wanted true = refl
always-wanted false = refl

module _ (b : Board) (i : ℕ) (defers : Bool) (start : Watch) (from : Starts b i defers start) (on : i < 3) (m : ChannelMode) (bcd : Bool) (n : ℕ)
    (o : Opened b i defers start m bcd n)
    (later : List Operation) (others : OnlyBytes later) (ps : List Pulse) (pins : pins_over i (after b i defers start m bcd n o) later ≡ fixed_at ps) where
  abbrev mode : ℕ
  mode = mode_number m

  abbrev now : Board
  now = before b i defers start m bcd n o

  abbrev begun : Board
  begun = after b i defers start m bcd n o

  abbrev calls : List Operation
  calls = opening i o.events o.place o.control o.access mode o.low o.high

  abbrev known : Watch
  known = watch_over i b o.earlier defers start

  abbrev deferring : Bool
  deferring = defers_over b o.earlier defers

  abbrev one : Fixed Bool
  one = one_now mode (after_one known)

  abbrev chip : Chip
  chip = sheet_chip b.model

  abbrev count : ℕ
  count = written_in o.access o.low o.high

  same-chip : sheet_chip now.model ≡ chip
  same-chip = ap sheet_chip (steps-model b o.earlier)

  least : smallest mode ≤ n
  least = (legal-number mode (number_written bcd count) n o.number).1

  abbrev late : Bool
  late = not (trigger_starts mode) && puts_off deferring mode awaits_count one

  abbrev At : Stage → Bool → Watch → Type 0
  At = IsAt chip m bcd one o.access count n o.number least

  -- the counter after the opening: a load is due
  opens : At (due late) true (watch_over i now calls deferring known)
  opens =
      let t = opened (sheet_chip now.model) deferring m bcd one o.known o.access o.low o.high (fixed_at (output_after_mode_set mode)) in (
        t.0,
        (
          left_open,
          over-opening i on o.events o.place deferring now o.control o.access mode bcd o.low o.high known o.names o.took
              ∙ ap (λ (w : Watch). trigger_heard (trigger_starts mode) (bytes_heard (sheet_chip now.model) deferring (bytes_in o.access o.low o.high) w))
              (set-high known o.access mode bcd)
              ∙ t.1,
        ),
      )

  abbrev opened-watch : Watch
  opened-watch = watch_over i now calls deferring known

  all_small : OnlyBytes (o.earlier ++ (calls ++ later))
  all_small =
      bytes-both o.earlier (calls ++ later) o.earlier-bytes
      (bytes-both calls later (
        tt,
        (
          o.control-byte,
          bytes-both (byte_calls i o.events o.place (bytes_in o.access o.low o.high)) (trigger_calls i o.events o.place (trigger_starts mode))
              (small_bytes i on o.events o.place deferring o.access o.low o.high o.low-byte o.high-byte)
              (small-trigger i on o.events o.place deferring (trigger_starts mode)),
        ),
      )
      others)

  watched : watch_over i b (o.earlier ++ (calls ++ later)) defers start ≡ pulsed chip opened-watch ps
  watched =
      over-both i b o.earlier (calls ++ later) defers start
      ∙ over-both i now calls later deferring known
      ∙ over-pins i begun later ps pins (defers_over now calls deferring) opened-watch
      ∙ ap (λ (c : Chip). pulsed c opened-watch ps) (ap sheet_chip (steps-model now calls) ∙ same-chip)

  ended : steps b (o.earlier ++ (calls ++ later)) ≡ steps begun later
  ended = steps-both b o.earlier (calls ++ later) ∙ steps-both now calls later

  -- what the counter fixes is shown
  shown : (x : Watch) → pulsed chip opened-watch ps ≡ x → ShowsIn x (channel_at (steps begun later) i)
  shown x is =
      subst (λ (w : Watch). ShowsIn w (channel_at (steps begun later) i)) (watched ∙ is)
      (subst (λ (d : Board). ShowsIn (watch_over i b (o.earlier ++ (calls ++ later)) defers start) (channel_at d i)) ended
      (follows b i defers start from on (o.earlier ++ (calls ++ later)) all_small))

  pos : 0 < n
  pos = above_zero m n least

  -- the closed forms, j ticks after a load
  running-shows : (j : ℕ) (gate : Bool) → At (run j) gate (pulsed chip opened-watch ps)
      → AtThePin (steps begun later) i bcd (output_after mode n j) (value_after chip bcd mode n j)
  running-shows j gate is =
      let s = shown (watching (running chip m bcd one o.access count n o.number least gate j) false one) is in
      record { output-is = s.shows-output ∙ output-place n j pos m; value-is = s.shows-value ∙ ap (held bcd) (value-place chip bcd n j pos m) }

  stays_at : (qs : List Pulse) (st : Stage) (x : Watch) → Undisturbed (fall_effect mode).stops true qs → At st true x
      → At (times (clocks_in qs) next st) (last_level true qs) (pulsed chip x qs)
  stays_at qs st x steady is =
      stages chip m bcd one o.access count n o.number least qs st true (always-wanted (fall_effect mode).stops) steady x is

  to-pin : Undisturbed (fall_effect mode).stops true ps → (j : ℕ) → clocks_in ps ≡ suc (late_ticks b i defers start m bcd n o + j)
      → AtThePin (steps begun later) i bcd (output_after mode n j) (value_after chip bcd mode n j)
  to-pin steady j made =
      running-shows j (last_level true ps)
      (subst (λ (st : Stage). At st (last_level true ps) (pulsed chip opened-watch ps))
      (ap (λ (k : ℕ). times k next (due late)) made ∙ late-after late j)
      (stays_at ps (due late) opened-watch steady opens))

  -- after the ticks up to the load and j more
  run_on : (j : ℕ) → pulsed chip opened-watch (clocks (suc (late_ticks b i defers start m bcd n o + j)))
      ≡ watching (running chip m bcd one o.access count n o.number least true j) false one
  run_on j =
      let k = suc (late_ticks b i defers start m bcd n o + j) in
      subst (λ (gate : Bool). At (run j) gate (pulsed chip opened-watch (clocks k))) (clocks-level true k)
      (subst (λ (st : Stage). At st (last_level true (clocks k)) (pulsed chip opened-watch (clocks k)))
      (ap (λ (c : ℕ). times c next (due late)) (clocks-in k) ∙ late-after late j)
      (stays_at (clocks k) (due late) opened-watch (clocks-steady (fall_effect mode).stops true k) opens))

  -- a trigger, whatever came before it
  restarts : (rise_effect mode).loads ≡ true → (qs rs : List Pulse) → ps ≡ qs ++ gate_at true ∷ rs → last_level true qs ≡ false
      → Undisturbed (fall_effect mode).stops true rs → (j : ℕ) → clocks_in rs ≡ suc j
      → AtThePin (steps begun later) i bcd (output_after mode n j) (value_after chip bcd mode n j)
  restarts loads qs rs split low steady j made =
      running-shows j (last_level true rs)
      (subst (At (run j) (last_level true rs)) (sym (ap (pulsed chip opened-watch) split ∙ pulsed-both chip qs (gate_at true ∷ rs) opened-watch))
      (subst (λ (st : Stage). At st (last_level true rs) (pulsed chip (watch_gate there true) rs))
      (ap (λ (k : ℕ). times k next (due false)) made ∙ run-after j)
      (stays_at rs (due false) (watch_gate there true) steady (w.output, (w.value, risen)))))
    where
      there : Watch
      there = pulsed chip opened-watch qs

      w : Written chip o.access mode bcd left_open (fixed_at count) one false there
      w =
          subst (λ (gate : Bool). Written chip o.access mode bcd left_open (fixed_at count) one gate there) low
          (written_on chip o.access mode bcd left_open (fixed_at count) one qs true opened-watch
          (record { phase = loading; output = opens.0; value = opens.1.0; late = late; is = opens.1.1 }))

      risen : watch_gate there true ≡ watching (counter chip m bcd one o.access count n o.number least true loading w.output w.value) false one
      risen =
          ap (λ (x : Watch). watch_gate x true) w.is
          ∙ ap
          (λ (t : Bool). watching (counter chip m bcd one o.access count n o.number least true (cond t loading w.phase) w.output w.value) (cond t false w.late) one)
          loads

  -- G0, G4
  abbrev Paused : List Pulse → ℕ → Type 0
  Paused qs mode' =
      AtThePin (steps begun later) i bcd (paused_output mode' n (high_clocks true 0 qs) (last_counted true false qs)) (down_value bcd n (high_clocks true 0 qs))

  loaded : pulsed chip opened-watch (clocks (suc (late_ticks b i defers start m bcd n o))) ≡ watching (running chip m bcd one o.access count n o.number least true 0) false one
  loaded =
      let same : late_ticks b i defers start m bcd n o + 0 ≡ late_ticks b i defers start m bcd n o = omega arith in
      subst (λ (k : ℕ). pulsed chip opened-watch (clocks (suc k)) ≡ watching (running chip m bcd one o.access count n o.number least true 0) false one) same (run_on 0)

  pauses : (mode ≡ 0) ⊎ (mode ≡ 4) → (qs : List Pulse) → ps ≡ clocks (suc (late_ticks b i defers start m bcd n o)) ++ qs → Paused qs mode
  pauses modes qs split =
      record { output-is = s.shows-output; value-is = s.shows-value }
    where
      begins : watching (running chip m bcd one o.access count n o.number least true 0) false one
          ≡ watching (paused chip o.access bcd left_open count one n mode true 0 false) false one
      begins =
          ap (λ (p : ℕ). watching (at chip (counter chip m bcd one o.access count n o.number least true loading left_open left_open) n p) false one) (first-place n m)
          ∙ ap
          (λ (level : Bool). watching (counter chip m bcd one o.access count n o.number least true (counting n 0) (fixed_at level) (fixed_at (value_after chip bcd mode n 0))) false one)
          (load-output n pos mode modes)
          ∙ ap
          (λ (v : ℕ). watching (counter chip m bcd one o.access count n o.number least true (counting n 0) (fixed_at (paused_output mode n 0 false)) (fixed_at v)) false one)
          (load-value chip bcd n mode modes)

      goes : (late' : Bool) × (pulsed chip (watching (paused chip o.access bcd left_open count one n mode true 0 false) false one) qs
          ≡ watching (paused chip o.access bcd left_open count one n mode (last_level true qs) (high_clocks true 0 qs) (last_counted true false qs)) late' one)
      goes = either-pauses chip o.access bcd left_open count one n mode modes qs true false 0 false

      s : ShowsIn (watching (paused chip o.access bcd left_open count one n mode (last_level true qs) (high_clocks true 0 qs) (last_counted true false qs)) goes.0 one)
          (channel_at (steps begun later) i)
      s =
          shown _
          (ap (pulsed chip opened-watch) split
          ∙ pulsed-both chip (clocks (suc (late_ticks b i defers start m bcd n o))) qs opened-watch
          ∙ ap (λ (x : Watch). pulsed chip x qs) (loaded ∙ begins)
          ∙ goes.1)

  -- G2, G3
  holds : (fall_effect mode).raises ≡ true → (j : ℕ) (qs : List Pulse) → ps ≡ clocks (suc (late_ticks b i defers start m bcd n o + j)) ++ gate_at false ∷ qs → Undisturbed false false qs
      → AtThePin (steps begun later) i bcd true (value_after chip bcd mode n j)
  holds raises j qs split quiet =
      let place = place_of (does_retrigger m) n j in
      let t =
      held_by chip o.access m bcd left_open (fixed_at count) one n place (fixed_at (value_after chip bcd mode n place)) raises qs quiet false
      (fixed_at (output_after mode n place)) in
      let s =
      shown _
      (ap (pulsed chip opened-watch) split
      ∙ pulsed-both chip (clocks (suc (late_ticks b i defers start m bcd n o + j))) (gate_at false ∷ qs) opened-watch
      ∙ ap (λ (x : Watch). pulsed chip x (gate_at false ∷ qs)) (run_on j)
      ∙ t.1) in
      record { output-is = s.shows-output; value-is = s.shows-value ∙ ap (held bcd) (value-place chip bcd n j pos m) }

pub port-to-pin : PortToPin
port-to-pin b i defers start from on m bcd n o later others ps pins = to-pin b i defers start from on m bcd n o later others ps pins

pub gate-pauses : GatePauses
gate-pauses b i defers start from on m bcd n o later others ps pins = pauses b i defers start from on m bcd n o later others ps pins

pub trigger-restarts : TriggerRestarts
trigger-restarts b i defers start from on m bcd n o later others ps pins = restarts b i defers start from on m bcd n o later others ps pins

pub fall-holds : FallHolds
fall-holds b i defers start from on m bcd n o later others ps pins = holds b i defers start from on m bcd n o later others ps pins
