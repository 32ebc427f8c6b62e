-- Every call of a board leaves its numbers in their fields, where the byte that it writes and the ticks that it catches up fit theirs: each rule of a channel does, and so does time.
-- Assumes nothing.
use Prim.Native.Nat.{ℕ, ◌<◌}
use mathlib.Core.Path.{◌≡◌, sym, subst}
use native.Mathlib.Omega.{arith}
use lib.ListN.{length}
use Rattle.refusal.specs.Reply.{Reply}
use Rattle.channel.specs.declared.PitType.{PitType}
use Rattle.encoding.specs.Range.{InRange}
use Rattle.board.specs.declared.Board.{Board}
use Rattle.board.specs.Board.{channel_at}
use Rattle.board.specs.Outcome.{Value}
use Rattle.board_encoding.specs.Range.{BoardInRange}
use Rattle.step.specs.Operation.{Operation}
use Rattle.step.specs.Step.{step}
use Rattle.step.proofs.Accepted.{by-reply}
use Rattle.step.proofs.Hearing.{Listener, Kept, call_kept}
use Rattle.step.proofs.Leaves.{refused-leaves}
use Rattle.step.proofs.Three.{step-three}
use Rattle.ranges.specs.Calls.{CallInRange}
use Rattle.ranges.proofs.Parts.{dirty-in-range}
use Rattle.ranges.proofs.Loads.{write-in-range, cycle-in-range}
use Rattle.ranges.proofs.Rules.{fresh-at-in-range, mode-in-range, gate-in-range, counts-in-range, latch-count-in-range, back-in-range, read-in-range}
use Rattle.ranges.proofs.Ticks.{tick-in-range}
use Rattle.ranges.proofs.Time.{time-in-range}

-- nothing is kept beside a record; of what is written each is a byte
abbrev bytes : Listener Unit
bytes =
    record {
      heeds = λ byte. byte < 256;
      on-mode = λ word none. none;
      on-byte = λ model c byte defer none. none;
      on-gate = λ level none. none;
      on-counts = λ number none. none;
      on-cycle = λ c none. none;
      on-tick = λ model c none. none;
      on-reset = λ none. none;
    }

every-rule : (model : PitType) → Kept bytes model (λ none c. InRange c)
every-rule model =
    record {
      mode-kept = λ none c word r. mode-in-range c r word model;
      byte-kept = λ none c byte defer fits r. write-in-range c byte defer fits r;
      gate-kept = λ none c level r. gate-in-range c r level;
      counts-kept = λ none c number r. counts-in-range number c r;
      cycle-kept = λ none c r. cycle-in-range c r;
      tick-kept = λ none c r. tick-in-range model c r;
      reset-kept = λ none c r. fresh-at-in-range c.pins.gate;
      latch-kept = λ none c r. latch-count-in-range c r;
      back-kept = λ none c counts status r. back-in-range counts status c r;
      read_kept = λ none c r. read-in-range c r;
      dirty-kept = λ none c dirty r. dirty-in-range c r dirty;
    }

-- a refused call leaves the board as it was
channel-in-range : (b : Board) → length b.channels ≡ 3 → (o : Operation) → CallInRange o → (i : ℕ) → i < 3 → InRange (channel_at b i)
    → InRange (channel_at (step b o).board i)
channel-in-range b three o fits i on now =
    by-reply b o (λ (reply : Reply Value). InRange (channel_at (step b o).board i))
    (λ number e. subst (λ (d : Board). InRange (channel_at d i)) (sym (refused-leaves b o number e).0) now)
    (λ value e. call_kept bytes b (λ none c. InRange c) (every-rule b.model) three i on tt now o (λ port byte events place is. subst CallInRange is fits) value e)

pub step-in-range : (b : Board) → BoardInRange b → (o : Operation) → CallInRange o → BoardInRange (step b o).board
step-in-range b r o fits =
    let time = time-in-range b (record { divisor = r.divisor; remainder = r.remainder; warp = r.warp; owed = r.owed }) o fits in
    record {
      three = step-three b r.three o;
      first = channel-in-range b r.three o fits 0 (omega arith) r.first;
      second = channel-in-range b r.three o fits 1 (omega arith) r.second;
      third = channel-in-range b r.three o fits 2 (omega arith) r.third;
      divisor = time.divisor;
      remainder = time.remainder;
      warp = time.warp;
      owed = time.owed;
    }
