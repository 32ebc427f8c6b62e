-- The sheets' counter (crates/sheet/specs/Counter.antt) beside a channel of ours, with what docs/DIFFERENCES.md lists put in: where the board departs from the sheets,
-- the counter is told so, in the sheets' words and the programmer's. What it says after that is proved of the board (crate waveform).
use Rattle.std.specs.Prelude.{ℕ, suc, ◌-◌, ◌%◌, Bool, true, false, not, cond, ◌&&◌, ◌||◌, ◌≡◌, eqb, ltb}
use Rattle.channel.specs.declared.Channel.{Channel}
use Rattle.sheet.specs.ControlByte.{Access, low_byte, high_byte, low_then_high}
use Rattle.sheet.specs.Gate.{fall_effect, rise_effect}
use Rattle.sheet.specs.Ticking.{Chip, chip8253, chip8254, held, high_ticks, square_high}
use Rattle.sheet.specs.Counter.{Fixed, left_open, fixed_at, Phase, awaits_count, awaits_trigger, loading, counting, lost, Counter, standing, programmed}
use Rattle.sheet.specs.CounterTick.{reloads, rest, counts, tick}
use Rattle.sheet.specs.CounterWrite.{on_count, write}
use Rattle.sheet.specs.CounterGate.{gate_to}

-- What is known of a channel: nothing but its gate before the mode set (C5); from there on the sheets' counter, and whether the load that is due comes one tick
-- late (S1). Beside it the last mode set of modes 0 to 3: whether that was mode 1, which modes 4 and 5 go by here (B3, B4)
pub data Watch : Type 0 where
  unprogrammed : (gate : Bool) (after_one : Fixed Bool) → Watch
  watching : (counter : Counter) (late : Bool) (after_one : Fixed Bool) → Watch

-- modes 0 to 3 say it themselves
abbrev pub one_now : ℕ → Fixed Bool → Fixed Bool
one_now mode was = cond (eqb mode 4 || eqb mode 5) was (fixed_at (eqb mode 1))

abbrev pub watch_program : Watch → Access → ℕ → Bool → Watch
watch_program (unprogrammed gate one) access mode bcd = watching (programmed gate access mode bcd) false (one_now mode one)
watch_program (watching k late one) access mode bcd = watching (programmed k.gate access mode bcd) false (one_now mode one)

-- a reset leaves a fresh channel: 01, "keeps model and gate"
abbrev pub gate_of : Watch → Bool
gate_of (unprogrammed gate one) = gate
gate_of (watching k late one) = k.gate

abbrev pub watch_reset : Watch → Watch
watch_reset w = unprogrammed (gate_of w) (fixed_at false)

-- S8: a count of 1 in modes 2 and 3, which "is never loaded by a tick" (02)
abbrev pub is_one : Fixed ℕ → Bool
is_one left_open = false
is_one (fixed_at w) = eqb w 1

abbrev pub never_loads : Counter → Bool
never_loads k = (eqb k.mode 2 || eqb k.mode 3) && is_one k.count

-- .. "the channel stays in, or returns to, `WaitingForLoadCycle` with output high": the load is still due, or is due again at the end of a period or half
abbrev pub load_tick : Chip → Counter → Counter
load_tick chip k = cond (never_loads k) (standing k loading (fixed_at true) k.value) (tick chip k)

abbrev pub count_tick : Chip → ℕ → ℕ → Counter → Counter
count_tick chip n j k = cond (counts k && (reloads k.mode n (suc j) && never_loads k)) (standing k loading (fixed_at true) left_open) (tick chip k)

-- S1: a tick that puts a load off, "one tick later once the board's defer flag is set"; it loads nothing and counts nothing
abbrev pub tick_late : Phase → Bool → Chip → Counter → Counter
tick_late loading late chip k = cond late (rest k) (load_tick chip k)
tick_late awaits_count late chip k = tick chip k
tick_late awaits_trigger late chip k = tick chip k
tick_late (counting n j) late chip k = count_tick chip n j k
tick_late lost late chip k = tick chip k

abbrev pub watch_tick : Chip → Watch → Watch
watch_tick chip (unprogrammed gate one) = unprogrammed gate one
watch_tick chip (watching k late one) = watching (tick_late k.phase late chip k) false one

-- S2: in modes 2 and 3 "a load that is due when the gate falls comes only after the next trigger". S3: in mode 4 it is forgotten
abbrev pub after_fall : ℕ → Phase → Phase
after_fall mode loading = cond (fall_effect mode).raises awaits_trigger (cond (eqb mode 4) lost loading)
after_fall mode awaits_count = awaits_count
after_fall mode awaits_trigger = awaits_trigger
after_fall mode (counting n j) = counting n j
after_fall mode lost = lost

-- S6: a trigger before the count "is ignored"
abbrev pub unless_early : Fixed ℕ → Phase → Phase → Phase
unless_early left_open old new = old
unless_early (fixed_at w) old new = new

-- the counter with a level at its gate, the departures put in
abbrev pub edged : Bool → Bool → Counter → Counter → Counter
edged true false k new = standing new (after_fall k.mode k.phase) new.output new.value
edged false true k new = standing new (unless_early k.count k.phase new.phase) new.output new.value
edged true true k new = new
edged false false k new = new

-- a trigger's load is not late
abbrev pub late_after : Bool → Bool → ℕ → Bool → Bool
late_after false true mode late = cond (rise_effect mode).loads false late
late_after false false mode late = late
late_after true level mode late = late

abbrev pub watch_gate : Watch → Bool → Watch
watch_gate (unprogrammed gate one) level = unprogrammed level one
watch_gate (watching k late one) level = watching (edged k.gate level k (gate_to k level)) (late_after k.gate level k.mode late) one

-- the byte completes a count
abbrev pub completes : Access → Fixed ℕ → Bool
completes low_byte first = true
completes high_byte first = true
completes low_then_high left_open = false
completes low_then_high (fixed_at low) = true

-- the first count since a mode set
abbrev pub is_first : Phase → Bool
is_first awaits_count = true
is_first awaits_trigger = false
is_first loading = false
is_first (counting n j) = false
is_first lost = false

abbrev pub unknown : Fixed Bool → Bool
unknown left_open = true
unknown (fixed_at known) = false

abbrev pub is_known : Fixed Bool → Bool → Bool
is_known left_open b = false
is_known (fixed_at true) b = b
is_known (fixed_at false) b = not b

-- Where it is not known whether mode 1 was the last of modes 0 to 3, it is open whether mode 5 waits for its trigger (S5), and with the defer flag set which tick loads in
-- mode 4: the counter has lost its place
abbrev pub strays : Bool → ℕ → Fixed Bool → Bool
strays defer mode one = unknown one && (eqb mode 5 || (eqb mode 4 && defer))

-- S5: mode 5, unless mode 1 was the last of modes 0 to 3, "loads its first count without a trigger"
abbrev pub untriggered : ℕ → Fixed Bool → Bool
untriggered mode one = eqb mode 5 && is_known one false

abbrev pub first_phase : Bool → ℕ → Fixed Bool → Phase
first_phase defer mode one = cond (strays defer mode one) lost (cond (untriggered mode one) loading (on_count mode awaits_count))

-- S4: "on the 8254, if its parity differs, the running high half is one tick longer or shorter": after an even count it is the half of the count above it, and after
-- an odd one that of the count below it, but for the last tick of such a half, which comes all the same
abbrev pub parts : Chip → Bool
parts chip8253 = false
parts chip8254 = true

abbrev pub disturbs : Chip → ℕ → ℕ → ℕ → ℕ → Bool
disturbs chip mode n j low = parts chip && (eqb mode 3 && (square_high n j && not (eqb (n % 2) (low % 2))))

abbrev pub other_half : ℕ → ℕ → Phase
other_half n j = cond (eqb (n % 2) 0) (counting (suc n) j) (cond (ltb (suc j) (high_ticks n)) (counting (n - 1) j) (counting n j))

-- where a complete count leads, its lowest bit being that of the byte low
abbrev pub count_phase : Chip → Bool → ℕ → Fixed Bool → ℕ → Phase → Phase
count_phase chip defer mode one low awaits_count = first_phase defer mode one
count_phase chip defer mode one low awaits_trigger = on_count mode awaits_trigger
count_phase chip defer mode one low loading = on_count mode loading
count_phase chip defer mode one low (counting n j) = cond (disturbs chip mode n j low) (other_half n j) (on_count mode (counting n j))
count_phase chip defer mode one low lost = on_count mode lost

-- the byte that has the count's lowest bit
abbrev pub low_of : Access → Fixed ℕ → ℕ → ℕ
low_of low_byte first byte = byte
low_of high_byte first byte = 0
low_of low_then_high left_open byte = byte
low_of low_then_high (fixed_at low) byte = low

-- S7: in mode 0 "with one-byte access low with the tick that loads", and as it was till then
abbrev pub keeps_output : Access → ℕ → Bool
keeps_output low_byte mode = eqb mode 0
keeps_output high_byte mode = eqb mode 0
keeps_output low_then_high mode = false

-- 01: in mode 0 "the low byte of a two-byte load drops the output", on the 8253 too, whose sheet does not say which byte does
abbrev pub drops_output : Access → Fixed ℕ → ℕ → Bool
drops_output access first mode = not (completes access first) && eqb mode 0

-- a byte written, the departures put in
abbrev pub byte_written : Chip → Bool → Fixed Bool → Counter → ℕ → Counter → Counter
byte_written chip defer one k byte new =
    standing new
    (cond (completes k.access k.first) (count_phase chip defer k.mode one (low_of k.access k.first byte) k.phase) new.phase)
    (cond (keeps_output k.access k.mode) k.output (cond (drops_output k.access k.first k.mode) (fixed_at false) new.output))
    new.value

-- S1: a write that makes a load due makes it late where the defer flag is set; not the first count of mode 4 after mode 1. Of a count that waits for a trigger it does not
-- matter: the trigger's load is not late
abbrev pub makes_due : ℕ → Phase → Bool
makes_due mode p = eqb mode 0 || (eqb mode 4 || is_first p)

abbrev pub puts_off : Bool → ℕ → Phase → Fixed Bool → Bool
puts_off defer mode p one = defer && not (eqb mode 4 && (is_first p && is_known one true))

abbrev pub late_by : Bool → Fixed Bool → Counter → Bool → Bool
late_by defer one k late =
    cond (completes k.access k.first && makes_due k.mode k.phase) (puts_off defer k.mode k.phase one) late

abbrev pub watch_write : Chip → Bool → Watch → ℕ → Watch
watch_write chip defer (unprogrammed gate one) byte = unprogrammed gate one
watch_write chip defer (watching k late one) byte = watching (byte_written chip defer one k byte (write chip k byte)) (late_by defer one k late) one

-- Counts made by hand are not the chip's: the value is not known any more, and from a counter that counts neither is its place. A load that is due comes all the same
abbrev pub miscounted : Phase → Phase
miscounted awaits_count = awaits_count
miscounted awaits_trigger = awaits_trigger
miscounted loading = loading
miscounted (counting n j) = lost
miscounted lost = lost

abbrev pub watch_counts : Watch → ℕ → Watch
watch_counts (unprogrammed gate one) number = unprogrammed gate one
watch_counts (watching k late one) number =
    cond (eqb number 0) (watching k late one) (watching (standing k (miscounted k.phase) k.output left_open) late one)

-- A load cycle by hand makes a load due that was late, and takes one that is due: where the counter then stands is not followed. Elsewhere it does nothing (01: "Other
-- states: no change")
abbrev pub cycled : Phase → Bool → Counter → Counter
cycled loading late k = cond late k (standing k lost k.output left_open)
cycled awaits_count late k = k
cycled awaits_trigger late k = k
cycled (counting n j) late k = k
cycled lost late k = standing k lost k.output left_open

abbrev pub watch_cycle : Watch → Watch
watch_cycle (unprogrammed gate one) = unprogrammed gate one
watch_cycle (watching k late one) = watching (cycled k.phase late k) false one

-- what is fixed is so: a level, and a value as the counter holds it
abbrev pub IsFixed : {A : Type 0} → Fixed A → A → Type 0
IsFixed left_open x = Unit
IsFixed (fixed_at y) x = x ≡ y

abbrev pub HoldsValue : Fixed ℕ → Bool → ℕ → Type 0
HoldsValue left_open bcd e = Unit
HoldsValue (fixed_at v) bcd e = e ≡ held bcd v

-- a channel's output pin and counting element are what the sheets' counter says
pub record Shows (k : Counter) (c : Channel) : Type 0 where
  pub shows-output : IsFixed k.output c.pins.output
  pub shows-value : HoldsValue k.value k.bcd c.counter.counting_element

abbrev pub ShowsIn : Watch → Channel → Type 0
ShowsIn (unprogrammed gate one) c = Unit
ShowsIn (watching k late one) c = Shows k c
