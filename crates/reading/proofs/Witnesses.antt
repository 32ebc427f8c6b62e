-- That demand 3's premises can be met: by the shortest reading, and by one with ticks and with refused calls in between. Assumes nothing.
use Prim.Native.Nat.{ℕ, zero, suc}
use mathlib.Core.Bool.{Bool, false, false≢true}
use mathlib.Core.List.{[], ◌∷◌}
use mathlib.Core.Path.{◌≡◌, refl}
use native.Mathlib.Nat.{not-suc-le-zero}
use native.Mathlib.Omega.{arith}
use Rattle.refusal.specs.Reply.{refused}
use Rattle.channel.specs.declared.PitType.TheVariants.{Model8253}
use Rattle.channel.specs.Fresh.{fresh_at}
use Rattle.channel.specs.Shared.{change_channel_state, change_output_state, put_element}
use Rattle.control.specs.Control.{command_of}
use Rattle.control.proofs.Named.{latch-byte}
use Rattle.count.specs.Count.{count}
use Rattle.load.specs.Cycle as channel
use Rattle.load.specs.Finalize.{complete_load, finalize_load}
use Rattle.load.specs.Write.{put_register, write_byte}
use Rattle.latch.specs.Latching.{latch_count}
use Rattle.tick.specs.Due.{due}
use Rattle.tick.specs.Taken.{taken}
use Rattle.tick.specs.Loads.{loads}
use Rattle.tick.specs.Tick.{aged_by, idle, with_armed, counting_on, marked, after_counts, tick}
use Rattle.time.specs.Time.{ticks_from_time}
use Rattle.event.specs.Event.{place_event}
use Rattle.board.specs.declared.Board.{Board}
use Rattle.board.specs.Board.{channel_at}
use Rattle.board.specs.Making.{fresh, reset}
use Rattle.board.specs.Counting.{load_cycle}
use Rattle.clock.specs.Clock.{run}
use Rattle.ports.specs.Port.{port_of}
use Rattle.ports.specs.Settle.{settle}
use Rattle.ports.specs.Reads.{read_port}
use Rattle.ports.specs.Writes.{write_port}
use Rattle.owed.specs.BoardTick.{board_tick}
use Rattle.owed.specs.Worked.{work_off}
use Rattle.step.specs.Operation.{WritePort, LoadCycle, Run, Reset, WorkOff}
use Rattle.step.specs.Step.{step, steps}
use Rattle.step.specs.Accepted.{accepted_of}
use Rattle.reading.specs.Beginning.{Begins}
use Rattle.reading.specs.Passing.{Unloaded}
use Rattle.reading.specs.Reading.{control_write, Calls, three_calls, latched, half_read, first_reply, second_reply, counts_made, Reading}
use Rattle.reading.specs.Spelling.{Spells}
use Rattle.reading.proofs.ThreeCalls.{latch-taken}
use Rattle.reading.proofs.Promise.{reads-the-count}

-- the shortest reading, on every channel that a reading may begin on, where no tick is owed
pub shortest : (b : Board) (i : ℕ) (bcd : Bool) (v : ℕ) → b.owed.0 ≡ 0 → Begins b i bcd v → Reading b i bcd v (three_calls i)
shortest b i bcd v none begins =
    record {
      begins = begins;
      before-may = tt;
      no-loads = tt;
      latches = latch-byte b.model i begins.on-board;
      latch-accepted = latch-taken b none i begins.on-board;
      after-may = tt;
      between-may = tt;
    }

-- the count 5 written to a fresh board, and loaded: channel 0 counts down in mode 0
abbrev counting : Board
counting = steps (fresh Model8253 12) (WritePort 0x40 5 [] 0 ∷ WritePort 0x40 0 [] 0 ∷ LoadCycle 0 ∷ [])

-- A run, and for the ticks then owed a mode set of the channel is refused (16); the ticks are worked off. After the latch a second one is refused for a place past the
-- event bytes (7), and between the reads a reset (16).
abbrev with_ticks : Calls
with_ticks =
    record {
      before = Run 24 ∷ control_write 0x30 [] 0 ∷ WorkOff 2 [] 0 ∷ [];
      latch_byte = 0;
      latch_events = [];
      latch_place = 0;
      after = control_write 0 [] 1 ∷ [];
      between = Run 12 ∷ Reset ∷ [];
    }

-- neither of two ticks loads
two-ticks : (i : ℕ) (b : Board) → loads b.model (channel_at b i) ≡ false → loads b.model (channel_at (board_tick b) i) ≡ false → Unloaded i b 2
two-ticks i b first second zero below = first
two-ticks i b first second (suc zero) below = second
two-ticks i b first second (suc (suc k)) below = absurd (omega arith)

-- It is a reading from 5, its ticks make two counts, and of its calls just those named are refused ..
pub with-ticks : Reading counting 0 false 5 with_ticks × (counts_made counting 0 with_ticks ≡ 2)
    × ((step (steps counting (Run 24 ∷ [])) (control_write 0x30 [] 0)).reply ≡ refused 16)
    × (accepted_of counting with_ticks.before ≡ Run 24 ∷ WorkOff 2 [] 0 ∷ [])
    × (accepted_of (latched counting 0 with_ticks) with_ticks.after ≡ [])
    × (accepted_of (half_read counting 0 with_ticks) with_ticks.between ≡ Run 12 ∷ [])
unfolding fresh fresh_at write_port port_of settle place_event write_byte put_register complete_load finalize_load change_channel_state change_output_state put_element load_cycle channel.load_cycle channel.load_value run ticks_from_time loads taken due board_tick tick aged_by idle with_armed counting_on marked after_counts count work_off command_of latch_count read_port reset
with-ticks = (
  record {
    begins = record {
      on-board = omega arith;
      may = refl;
      radix = refl;
      element = refl;
      four-digits = λ is. absurd (false≢true is);
      three-channels = refl;
      sixteen-bits = omega arith;
    };
    before-may = (tt, (tt, tt));
    no-loads = (λ k below. absurd (not-suc-le-zero below), (λ k below. absurd (not-suc-le-zero below), (two-ticks 0 (steps counting (Run 24 ∷ [])) refl refl, tt)));
    latches = refl;
    latch-accepted = (_, refl);
    after-may = tt;
    between-may = (tt, tt);
  },
  refl,
  refl,
  refl,
  refl,
  refl,
)

-- .. so its bytes spell 3
pub with-ticks-spells : Spells 3 (first_reply counting 0 with_ticks) (second_reply counting 0 with_ticks)
with-ticks-spells = rw with-ticks.1 at (reads-the-count counting 0 false 5 with_ticks with-ticks.0)
