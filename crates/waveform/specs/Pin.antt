-- From the port to the pin: a counter that a programmer has started, ticks and levels at its gate; the output and the value are then the closed forms that the sheets
-- give (crates/sheet/specs/Ticking.antt). For any board with three channels, any calls before, every mode, chip, access, radix and count in range; the ticks are made in
-- any number of calls. One case is open: in mode 4 which of two ticks loads (`tick_open` in Opened.antt).
use Rattle.std.specs.Prelude.{ℕ, suc, ◌+◌, ◌<◌, Bool, true, false, not, cond, ◌&&◌, List, ◌∷◌, ◌++◌, ◌⊎◌, ◌≡◌, eqb}
use Rattle.channel.specs.declared.ChannelMode.{ChannelMode}
use Rattle.channel.specs.Modes.{mode_number}
use Rattle.board.specs.declared.Board.{Board}
use Rattle.board.specs.Board.{channel_at}
use Rattle.step.specs.Operation.{Operation}
use Rattle.step.specs.Step.{steps}
use Rattle.sheet.specs.Gate.{fall_effect, rise_effect}
use Rattle.sheet.specs.Ticking.{held, down_value, high_from, value_after, output_after}
use Rattle.sheet.specs.Counter.{fixed_at}
use Rattle.agreement.specs.Words.{sheet_chip}
use Rattle.agreement.specs.Watching.{Watch, one_now}
use Rattle.waveform.specs.Follows.{Starts, NewBoard}
use Rattle.waveform.specs.Heard.{defers_over, watch_over, OnlyBytes}
use Rattle.waveform.specs.Opened.{Opened, after, late_ticks, tick_open, after_one}
use Rattle.waveform.specs.Pins.{Pulse, gate_at, clocks, pins_over, clocks_in, last_level, Undisturbed, high_clocks, last_counted}

-- what the pin shows, and the counting element
pub record AtThePin (b : Board) (i : ℕ) (bcd : Bool) (level : Bool) (value : ℕ) : Type 0 where
  pub output-is : (channel_at b i).pins.output ≡ level
  pub value-is : (channel_at b i).counter.counting_element ≡ held bcd value

-- a statement about every started counter, the calls after it and what they do to its pins
abbrev pub ForEvery : ((b : Board) (i : ℕ) (m : ChannelMode) (bcd : Bool) (n late : ℕ) (now : Board) (ps : List Pulse) → Type 0) → Type 0
ForEvery Says =
    (b : Board) (i : ℕ) (defers : Bool) (start : Watch) → Starts b i defers start → i < 3
    → (m : ChannelMode) (bcd : Bool) (n : ℕ) (o : Opened b i defers start m bcd n)
    → (later : List Operation) → OnlyBytes later → (ps : List Pulse) → pins_over i (after b i defers start m bcd n o) later ≡ fixed_at ps
    → Says b i m bcd n (late_ticks b i defers start m bcd n o) (steps (after b i defers start m bcd n o) later) ps

-- j ticks after the one that loads, the gate being as the mode wants it: high in modes 0, 2, 3 and 4, in modes 1 and 5 at any level that does not rise
abbrev pub PortToPin : Type 0
PortToPin =
    ForEvery
    (λ (b : Board) (i : ℕ) (m : ChannelMode) (bcd : Bool) (n late : ℕ) (now : Board) (ps : List Pulse).
    Undisturbed (fall_effect (mode_number m)).stops true ps → (j : ℕ) → clocks_in ps ≡ suc (late + j)
    → AtThePin now i bcd (output_after (mode_number m) n j) (value_after (sheet_chip b.model) bcd (mode_number m) n j))

-- G0, G4: any levels and ticks after the load, of which r were made while the gate was high. Mode 0 is high from r = n on; mode 4 is low exactly after the tick that
-- makes r equal n
abbrev pub paused_output : ℕ → ℕ → ℕ → Bool → Bool
paused_output mode n r counted = cond (eqb mode 0) (high_from n r) (not (counted && eqb r n))

abbrev pub GatePauses : Type 0
GatePauses =
    ForEvery
    (λ (b : Board) (i : ℕ) (m : ChannelMode) (bcd : Bool) (n late : ℕ) (now : Board) (ps : List Pulse).
    (mode_number m ≡ 0) ⊎ (mode_number m ≡ 4) → (qs : List Pulse) → ps ≡ clocks (suc late) ++ qs
    → AtThePin now i bcd (paused_output (mode_number m) n (high_clocks true 0 qs) (last_counted true false qs)) (down_value bcd n (high_clocks true 0 qs)))

-- G1, G2, G3, G5: after any levels and ticks a trigger begins again, and j ticks after the one that loads the counter stands as after the first load
abbrev pub TriggerRestarts : Type 0
TriggerRestarts =
    ForEvery
    (λ (b : Board) (i : ℕ) (m : ChannelMode) (bcd : Bool) (n late : ℕ) (now : Board) (ps : List Pulse).
    (rise_effect (mode_number m)).loads ≡ true → (qs rs : List Pulse) → ps ≡ qs ++ gate_at true ∷ rs → last_level true qs ≡ false
    → Undisturbed (fall_effect (mode_number m)).stops true rs → (j : ℕ) → clocks_in rs ≡ suc j
    → AtThePin now i bcd (output_after (mode_number m) n j) (value_after (sheet_chip b.model) bcd (mode_number m) n j))

-- G2, G3: j ticks after the load the gate falls, and up to the next trigger the output is high and the value stands
abbrev pub FallHolds : Type 0
FallHolds =
    ForEvery
    (λ (b : Board) (i : ℕ) (m : ChannelMode) (bcd : Bool) (n late : ℕ) (now : Board) (ps : List Pulse).
    (fall_effect (mode_number m)).raises ≡ true → (j : ℕ) (qs : List Pulse) → ps ≡ clocks (suc (late + j)) ++ gate_at false ∷ qs → Undisturbed false false qs
    → AtThePin now i bcd true (value_after (sheet_chip b.model) bcd (mode_number m) n j))

-- on a new board it is never open which tick loads
abbrev pub NewIsKnown : Type 0
NewIsKnown =
    (b : Board) (defers : Bool) (start : Watch) → NewBoard b defers start → (i : ℕ) (os : List Operation) (mode : ℕ)
    → tick_open (defers_over b os defers) mode (one_now mode (after_one (watch_over i b os defers start))) ≡ false
