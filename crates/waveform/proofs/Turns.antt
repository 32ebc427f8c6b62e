-- One accepted call of the board, and what a channel hears of it: the sheets' counter and the record stay in step. Assumes nothing.
use Prim.Native.Nat.{ℕ, zero, suc, ◌+◌, ◌<◌}
use mathlib.Core.Bool.{Bool, cond}
use mathlib.Core.Path.{◌≡◌, refl, sym, ap, subst, ◌∙◌}
use lib.Dec.{eqb}
use lib.ListN.{length}
use Rattle.numbers.specs.Times.{times}
use Rattle.refusal.specs.Reply.{accepted}
use Rattle.channel.specs.declared.Channel.{Channel}
use Rattle.channel.specs.declared.PitType.{PitType}
use Rattle.channel.specs.Modes.{mode_number}
use Rattle.control.specs.declared.Command.{Command}
use Rattle.control.specs.declared.Command.TheVariants.{Nothing, LatchCount, SetMode, ReadBack}
use Rattle.control.specs.Control.{command_of}
use Rattle.latch.specs.declared.reading.ByteRead.{ByteRead}
use Rattle.latch.specs.Latching.{latch_count}
use Rattle.latch.specs.ReadBack.{read_back}
use Rattle.latch.specs.Reading.{read_byte}
use Rattle.latch.proofs.Words.{every-read}
use Rattle.latch.proofs.ReadBacks.{read-back-keeps}
use Rattle.board.specs.declared.Board.{Board}
use Rattle.board.specs.Board.{channel_at}
use Rattle.board.specs.Outcome.{Value}
use Rattle.step.specs.Operation.{Operation, WritePort, ReadPort, SetChannelGate, Counts, LoadCycle, CatchUp, Run, Reset, GetOutputState, GetChannelCount, DoesChannelRetrigger, IsDirty, GetTimerAccum, WorkOff}
use Rattle.step.specs.Step.{step}
use Rattle.step.specs.Owed.{made_by}
use Rattle.step.proofs.Hearing.{Listener, Kept, on_command, on_ticks, on_call, call_kept}
use Rattle.sheet.specs.ControlByte.{Request}
use Rattle.agreement.specs.Words.{sheet_chip, sheet_access, sheet_request}
use Rattle.agreement.specs.Watching.{Watch, watch_program, watch_reset, watch_tick, watch_gate, watch_write, watch_counts, watch_cycle}
use Rattle.agreement.proofs.ControlByte.{control-agrees}
use Rattle.agreement.proofs.Tracking.{core_of, Tracks}
use Rattle.agreement.proofs.TrackTick.{tick-tracks}
use Rattle.agreement.proofs.TrackGate.{gate-tracks}
use Rattle.agreement.proofs.TrackBytes.{write-tracks}
use Rattle.agreement.proofs.TrackOthers.{program-tracks, reset-tracks, counts-track, cycle-tracks}
use Rattle.waveform.specs.Heard.{heard_control, heard_of, IsByte}

-- neither a read nor a read-back moves what the sheets' counter is about
core-read : (c : Channel) → core_of (read_byte c).channel ≡ core_of c
core-read c = every-read (λ (r : ByteRead). core_of r.channel ≡ core_of c) c (λ none. refl) (λ held. refl)

core-read-back : (counts status : Bool) (c : Channel) → core_of (read_back counts status c) ≡ core_of c
core-read-back counts status c =
    let k = read-back-keeps counts status c in
    λ i.
    record {
      control = k.control-stays i;
      reloading = k.reloading-stays i;
      load = k.load-stays i;
      state = (k.counter-stays i).channel_state;
      element = (k.counter-stays i).counting_element;
      pins = k.pins-stay i;
    }

core-latch : (c : Channel) → core_of (latch_count c) ≡ core_of c
unfolding latch_count
core-latch c = refl

-- the sheets' counter, as the rules tell it of
abbrev watcher : Listener Watch
watcher =
    record {
      heeds = λ byte. byte < 256;
      on-mode = λ word w. watch_program w (sheet_access word.rw_mode) (mode_number word.mode) word.bcd_mode;
      on-byte = λ model c byte defer w. watch_write (sheet_chip model) defer w byte;
      on-gate = λ level w. watch_gate w level;
      on-counts = λ number w. watch_counts w number;
      on-cycle = λ c w. watch_cycle w;
      on-tick = λ model c w. watch_tick (sheet_chip model) w;
      on-reset = watch_reset;
    }

tracking : (model : PitType) → Kept watcher model (λ (w : Watch) (c : Channel). Tracks model w (core_of c))
tracking model =
    record {
      mode-kept = λ w c word t. program-tracks model w c word t;
      byte-kept = λ w c byte defer small t. write-tracks model w c byte defer small t;
      gate-kept = λ w c level t. gate-tracks model w c level t;
      counts-kept = λ w c number t. counts-track model w c number t;
      cycle-kept = λ w c t. cycle-tracks model w c t;
      tick-kept = λ w c t. tick-tracks model w c t;
      reset-kept = λ w c t. reset-tracks model w c t;
      latch-kept = λ w c t. subst (Tracks model w) (sym (core-latch c)) t;
      back-kept = λ w c counts status t. subst (Tracks model w) (sym (core-read-back counts status c)) t;
      read_kept = λ w c t. subst (Tracks model w) (sym (core-read c)) t;
      dirty-kept = λ w c dirty t. t;
    }

-- .. is what is heard, in the words of specs/Heard.antt
same-command : (i : ℕ) (k : Command) (w : Watch) → on_command watcher i k w ≡ heard_control i (sheet_request k) w
same-command i Nothing w = refl
same-command i (LatchCount n) w = refl
same-command i (SetMode n word) w = refl
same-command i (ReadBack word) w = refl

same-ticks : (model : PitType) (n : ℕ) (c : Channel) (w : Watch) → on_ticks watcher model n c w ≡ times n (watch_tick (sheet_chip model)) w
same-ticks model zero c w = refl
same-ticks model (suc n) c w = ap (watch_tick (sheet_chip model)) (same-ticks model n c w)

same-heard : (i : ℕ) (b : Board) (o : Operation) → IsByte o → (w : Watch) → on_call watcher i b o w ≡ heard_of i b b.defer o w
same-heard i b (WritePort port byte events place) small w =
    ap (λ (x : Watch). cond (eqb port (0x40 + i)) (watch_write (sheet_chip b.model) b.defer w byte) (cond (eqb port 0x43) x w))
    (same-command i (command_of b.model byte) w ∙ ap (λ (r : Request). heard_control i r w) (control-agrees b.model byte small))
same-heard i b (ReadPort port) small w = refl
same-heard i b (SetChannelGate n level events place) small w = refl
same-heard i b (Counts n number) small w = refl
same-heard i b (LoadCycle n) small w = refl
same-heard i b (CatchUp given) small w = refl
same-heard i b (Run given) small w = refl
same-heard i b Reset small w = refl
same-heard i b (GetOutputState n) small w = refl
same-heard i b (GetChannelCount n) small w = refl
same-heard i b (DoesChannelRetrigger n) small w = refl
same-heard i b (IsDirty n) small w = refl
same-heard i b GetTimerAccum small w = refl
same-heard i b (WorkOff stated events place) small w = same-ticks b.model (made_by (step b (WorkOff stated events place)).reply) (channel_at b i) w

-- every accepted call
pub turn : (b : Board) → length b.channels ≡ 3 → (i : ℕ) → i < 3 → (w : Watch) → Tracks b.model w (core_of (channel_at b i))
    → (o : Operation) → IsByte o → (value : Value) → (step b o).reply ≡ accepted value
    → Tracks b.model (heard_of i b b.defer o w) (core_of (channel_at (step b o).board i))
turn b three i on w now o small value took =
    subst (λ (v : Watch). Tracks b.model v (core_of (channel_at (step b o).board i))) (same-heard i b o small w)
    (call_kept watcher b (λ (v : Watch) (c : Channel). Tracks b.model v (core_of c)) (tracking b.model) three i on w now o (λ port byte events place is. subst IsByte is small) value took)
