-- Where a reading may begin: on every channel of a fresh board and after a reset, at 0; after a mode set in low-then-high access, at 0 in its radix; and, on a channel that a
-- reading may begin on, after a load cycle, at the value moved, and after ticks that loaded it, at that value less what the ticks since have taken. Assumes nothing.
use Prim.Native.Nat.{ℕ, zero, suc, ◌+◌, ◌<◌}
use mathlib.Core.Bool.{Bool, true, false}
use mathlib.Core.List.{List, []}
use mathlib.Core.Path.{◌≡◌, refl, ap, ◌∙◌}
use native.Mathlib.Omega.{arith}
use lib.ListN.{length}
use Rattle.numbers.specs.Digits.{GoodDigits}
use Rattle.numbers.specs.Times.{times}
use Rattle.numbers.proofs.Times.{times-add}
use Rattle.refusal.specs.Reply.{accepted}
use Rattle.channel.specs.declared.Channel.{Channel}
use Rattle.channel.specs.declared.ChannelState.TheVariants.{WaitingForLoadCycle}
use Rattle.channel.specs.declared.ControlWord.{ControlWord}
use Rattle.channel.specs.declared.PitType.{PitType}
use Rattle.channel.specs.declared.RwMode.TheVariants.{LsbMsb}
use Rattle.channel.specs.Fresh.{fresh_at}
use Rattle.control.specs.declared.Command.TheVariants.{SetMode}
use Rattle.control.specs.Control.{command_of}
use Rattle.load.specs.Cycle as channel
use Rattle.load.proofs.Moved.{moved-element}
use Rattle.load.proofs.Stays.{control-stays}
use Rattle.tick.specs.Loads.{loads}
use Rattle.tick.proofs.Loaded.{load_moves}
use Rattle.mode.specs.Mode.{set_mode}
use Rattle.board.specs.declared.Board.{Board}
use Rattle.board.specs.Board.{channel_at}
use Rattle.board.specs.Outcome.{Outcome, Value, done, accept}
use Rattle.board.specs.Making.{fresh, restored, reset}
use Rattle.board.specs.Counting.{load_cycle}
use Rattle.board.proofs.Channels.{put-found, not-above}
use Rattle.owed.specs.BoardTick.{board_tick}
use Rattle.step.specs.Operation.{LoadCycle, Reset, WorkOff}
use Rattle.step.specs.Step.{step}
use Rattle.step.specs.Accepted.{IsAccepted}
use Rattle.step.specs.Owed.{made_by}
use Rattle.step.proofs.Made.{ticks-made}
use Rattle.step.proofs.Owing.{not-owed}
use Rattle.step.proofs.Three.{fresh-three, step-three}
use Rattle.reading.specs.Beginning.{may_begin, Begins}
use Rattle.reading.specs.Passing.{Unloaded}
use Rattle.reading.specs.Counts.{taken_in}
use Rattle.reading.specs.Reading.{control_write}
use Rattle.reading.specs.Spelling.{remaining}
use Rattle.reading.proofs.May.{may-begin}
use Rattle.reading.proofs.Counted.{Undisturbed, undisturbed-may, cycle-undisturbed, Counted}
use Rattle.owed.proofs.Nth.{next-tick}
use Rattle.reading.proofs.Ticked.{ticks-counted}
use Rattle.reading.proofs.Spelling.{left_below, left-good}
use Rattle.reading.proofs.Stands.{Stands, counted-stands}
use Rattle.reading.proofs.Turns.{command-turn}

zero-good : GoodDigits 0
zero-good = omega arith

-- a board whose channel is a fresh one, with its gate at any level
fresh-record : (b : Board) (i : ℕ) (level : Bool) → i < 3 → length b.channels ≡ 3 → channel_at b i ≡ fresh_at level → Begins b i false 0
unfolding fresh_at
fresh-record b i level on three at =
    record {
      on-board = on;
      may = ap may_begin at;
      radix = ap (λ (c : Channel). c.control.bcd_mode) at;
      element = ap (λ (c : Channel). c.counter.counting_element) at;
      four-digits = λ is. zero-good;
      three-channels = three;
      sixteen-bits = omega arith;
    }

fresh-at : (model : PitType) (divisor i : ℕ) → i < 3 → channel_at (fresh model divisor) i ≡ fresh_at true
unfolding fresh
fresh-at model divisor zero on = refl
fresh-at model divisor (suc zero) on = refl
fresh-at model divisor (suc (suc zero)) on = refl
fresh-at model divisor (suc (suc (suc i))) on = absurd (omega arith)

pub fresh-begins : (model : PitType) (divisor i : ℕ) → i < 3 → Begins (fresh model divisor) i false 0
fresh-begins model divisor i on =
    fresh-record (fresh model divisor) i true on (fresh-three model divisor) (fresh-at model divisor i on)

restored_at : (b : Board) (i : ℕ) → i < 3 → channel_at (restored b) i ≡ fresh_at (channel_at b i).pins.gate
unfolding restored
restored_at b zero on = refl
restored_at b (suc zero) on = refl
restored_at b (suc (suc zero)) on = refl
restored_at b (suc (suc (suc i))) on = absurd (omega arith)

restored-three : (b : Board) → length (restored b).channels ≡ 3
unfolding restored
restored-three b = refl

-- a reset that is accepted
reset-leaves : (b : Board) (value : Value) → (reset b).reply ≡ accepted value → (reset b).board ≡ restored b
unfolding reset
reset-leaves b value took = ap (λ (o : Outcome). o.board) (not-owed b [] (accept done (restored b)) value took)

pub reset-begins : (b : Board) (i : ℕ) → i < 3 → IsAccepted b Reset → Begins (step b Reset).board i false 0
reset-begins b i on took =
    rw (reset-leaves b took.0 took.1) (fresh-record (restored b) i (channel_at b i).pins.gate on (restored-three b) (restored_at b i on))

module _ (b : Board) (three : length b.channels ≡ 3) (i : ℕ) (on : i < 3) where
  pub mode-begins : (x : ℕ) (events : List ℕ) (place : ℕ) (word : ControlWord) → command_of b.model x ≡ SetMode i word → word.rw_mode ≡ LsbMsb
      → IsAccepted b (control_write x events place)
      → Begins (step b (control_write x events place)).board i word.bcd_mode 0
  unfolding set_mode
  mode-begins x events place word sets both took =
      let at : channel_at (step b (control_write x events place)).board i ≡ set_mode (channel_at b i) word b.model =
      command-turn b three i on x events place (SetMode i word) (set_mode (channel_at b i) word b.model) sets refl took in
      record {
        on-board = on;
        may = ap may_begin at ∙ may-begin (set_mode (channel_at b i) word b.model) refl refl both refl;
        radix = ap (λ (c : Channel). c.control.bcd_mode) at;
        element = ap (λ (c : Channel). c.counter.counting_element) at;
        four-digits = λ is. zero-good;
        three-channels = step-three b three (control_write x events place);
        sixteen-bits = omega arith;
      }

  -- the digits of the value moved are decimal, where the radix is BCD; whatever the counting element was
  module _ (may : may_begin (channel_at b i) ≡ true) (waits : (channel_at b i).counter.channel_state ≡ WaitingForLoadCycle)
      (fits : channel.load_value (channel_at b i) < 65536)
      (good : (channel_at b i).control.bcd_mode ≡ true → GoodDigits (channel.load_value (channel_at b i))) where
    loaded : channel_at (load_cycle b i).board i ≡ channel.load_cycle (channel_at b i)
    unfolding load_cycle
    loaded = rw (not-above i on) (put-found b three i on (channel.load_cycle (channel_at b i)))

    pub load-begins : Begins (step b (LoadCycle i)).board i (channel_at b i).control.bcd_mode (channel.load_value (channel_at b i))
    load-begins =
        record {
          on-board = on;
          may = ap may_begin loaded ∙ undisturbed-may (channel_at b i) (channel.load_cycle (channel_at b i)) (cycle-undisturbed (channel_at b i)) may;
          radix = ap (λ (c : Channel). c.control.bcd_mode) loaded ∙ ap (λ (w : ControlWord). w.bcd_mode) (control-stays (channel_at b i));
          element = ap (λ (c : Channel). c.counter.counting_element) loaded ∙ moved-element (channel_at b i) waits;
          four-digits = good;
          three-channels = step-three b three (LoadCycle i);
          sixteen-bits = fits;
        }

  -- ticks worked off: tick j loads, whatever those before it did, and the m ticks after it do not
  module _ (may : may_begin (channel_at b i) ≡ true) (stated : ℕ) (events : List ℕ) (place j m : ℕ)
      (made : made_by (step b (WorkOff stated events place)).reply ≡ m + suc j)
      (loading : loads b.model (channel_at (times j board_tick b) i) ≡ true) (unloaded : Unloaded i (times (suc j) board_tick b) m)
      (fits : channel.load_value (channel_at (times j board_tick b) i) < 65536)
      (good : (channel_at b i).control.bcd_mode ≡ true → GoodDigits (channel.load_value (channel_at (times j board_tick b) i))) where
    abbrev bcd : Bool
    bcd = (channel_at b i).control.bcd_mode

    -- the value moved, the board that the tick leaves, and what the later ticks take
    abbrev value : ℕ
    value = channel.load_value (channel_at (times j board_tick b) i)

    abbrev loaded-board : Board
    loaded-board = times (suc j) board_tick b

    abbrev later : ℕ
    later = taken_in i loaded-board m

    work-leaves : (step b (WorkOff stated events place)).board ≡ times m board_tick loaded-board
    work-leaves = ticks-made b stated events place ∙ ap (λ (n : ℕ). times n board_tick b) made ∙ times-add m (suc j) board_tick b

    passed : Undisturbed (channel_at b i) (channel_at loaded-board i)
    passed = (ticks-counted b i on (suc j)).undisturbed

    counted : Counted (Unloaded i loaded-board m) later (channel_at loaded-board i) (channel_at (times m board_tick loaded-board) i)
    counted = ticks-counted loaded-board i on m

    stands : Stands bcd (remaining bcd value later) (channel_at (times m board_tick loaded-board) i)
    stands =
        counted-stands later fits good counted unloaded
        (record {
          in-radix = ap (λ (w : ControlWord). w.bcd_mode) passed.same-control;
          at = ap (λ (c : Channel). c.counter.counting_element) (next-tick b i on j) ∙ load_moves b.model (channel_at (times j board_tick b) i) loading;
        })

    pub work-begins : Begins (step b (WorkOff stated events place)).board i bcd (remaining bcd value later)
    work-begins =
        record {
          on-board = on;
          may =
              rw work-leaves
              (undisturbed-may (channel_at loaded-board i) _ counted.undisturbed (undisturbed-may (channel_at b i) (channel_at loaded-board i) passed may));
          radix = rw work-leaves stands.in-radix;
          element = rw work-leaves stands.at;
          four-digits = left-good bcd value later;
          three-channels = step-three b three (WorkOff stated events place);
          sixteen-bits = left_below bcd value later;
        }
