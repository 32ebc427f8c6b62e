-- What is said of a channel's record, and follows each rule of a channel, follows every call of the board. A listener says what each rule does to something that is kept beside the
-- record; if a relation between the two is kept by every rule, it is kept by every accepted call. Assumes nothing.
use Prim.Native.Nat.{ℕ, zero, suc, ◌+◌, ◌<◌}
use mathlib.Core.Bool.{Bool, true, false, cond}
use mathlib.Core.List.{List, []}
use mathlib.Core.Path.{◌≡◌, refl, sym, ap, subst, ◌∙◌}
use native.Mathlib.Omega.{arith}
use lib.Dec.{eqb}
use lib.ListN.{length}
use borrow.Author.Tests.{eqb-true, eqb-false, ne_eqb}
use Rattle.numbers.specs.Times.{times}
use Rattle.refusal.specs.Reply.{accepted}
use Rattle.refusal.proofs.Apart.{refused-not}
use Rattle.channel.specs.declared.Channel.{Channel}
use Rattle.channel.specs.declared.ControlWord.{ControlWord}
use Rattle.channel.specs.declared.PitType.{PitType}
use Rattle.channel.specs.Fresh as channel
use Rattle.channel.specs.Record.{with_dirty}
use Rattle.channel.proofs.Pick.{pick_same, pick-holds}
use Rattle.control.specs.declared.Command.{Command}
use Rattle.control.specs.declared.Command.TheVariants.{Nothing, LatchCount, SetMode, ReadBack}
use Rattle.control.specs.Control.{names, command_of}
use Rattle.count.specs.Count.{count}
use Rattle.latch.specs.Latching as latch
use Rattle.latch.specs.ReadBack.{read_back}
use Rattle.latch.specs.Reading.{read_byte}
use Rattle.load.specs.Write.{write_byte}
use Rattle.load.specs.Cycle as load
use Rattle.mode.specs.Mode as mode
use Rattle.gate.specs.Gate.{set_gate}
use Rattle.tick.specs.Tick.{tick}
use Rattle.board.specs.declared.Board.{Board}
use Rattle.board.specs.Board.{channel_at, with_channel}
use Rattle.board.specs.Outcome.{Outcome, Value, done, accept, unless_owed}
use Rattle.board.specs.Making.{restored, reset}
use Rattle.board.specs.Counting.{counts, load_cycle}
use Rattle.board.specs.Queries.{is_dirty}
use Rattle.board.proofs.Channels.{put-found, put_other, not-above}
use Rattle.owed.specs.BoardTick.{board_tick}
use Rattle.owed.specs.Worked.{work_off}
use Rattle.owed.proofs.Nth.{next-tick}
use Rattle.ports.specs.declared.port.Port.{Port}
use Rattle.ports.specs.declared.port.Port.TheVariants.{Data, Command as CommandPort}
use Rattle.std.specs.Prelude.{Option, Some, None}
use Rattle.ports.specs.Port.{port_of}
use Rattle.ports.specs.Settle.{settle}
use Rattle.ports.specs.ReadBacks.{read_back_at, read_back_write}
use Rattle.ports.specs.Gates.{set_channel_gate}
use Rattle.ports.specs.Reads.{read_from, read_port}
use Rattle.ports.specs.Writes.{control_register_write, write_to, write_port}
use Rattle.ports.proofs.Below.{by-port}
use Rattle.ports.proofs.Settling.{settle-taken}
use Rattle.ports.proofs.ReadingBacks.{each_read, read-backs-hold}
use Rattle.step.specs.Operation.{Operation, WritePort, ReadPort, SetChannelGate, Counts, LoadCycle, CatchUp, Run, Reset, GetOutputState, GetChannelCount, DoesChannelRetrigger, IsDirty, GetTimerAccum, WorkOff}
use Rattle.step.specs.Step.{step}
use Rattle.step.specs.Owed.{made_by}
use Rattle.step.specs.Touched.{CommandTouches, Touches}
use Rattle.step.proofs.Made.{ticks-made}
use Rattle.step.proofs.Owing.{not-owed, by-owed}
use Rattle.step.proofs.Touched.{write-stays, untouched-stays}

-- what each rule of a channel, on a board of a model, does to what is kept beside its record; `heeds` says of which bytes something is said
pub record Listener (G : Type 0) : Type 1 where
  pub heeds : ℕ → Type 0
  pub on-mode : ControlWord → G → G
  pub on-byte : PitType → Channel → ℕ → Bool → G → G
  pub on-gate : Bool → G → G
  pub on-counts : ℕ → G → G
  pub on-cycle : Channel → G → G
  pub on-tick : PitType → Channel → G → G
  pub on-reset : G → G

-- a relation that every rule keeps
pub record Kept {G : Type 0} (l : Listener G) (model : PitType) (R : G → Channel → Type 0) : Type 0 where
  pub mode-kept : (g : G) (c : Channel) (word : ControlWord) → R g c → R (l.on-mode word g) (mode.set_mode c word model)
  pub byte-kept : (g : G) (c : Channel) (byte : ℕ) (defer : Bool) → l.heeds byte → R g c → R (l.on-byte model c byte defer g) (write_byte c byte defer)
  pub gate-kept : (g : G) (c : Channel) (level : Bool) → R g c → R (l.on-gate level g) (set_gate c level)
  pub counts-kept : (g : G) (c : Channel) (number : ℕ) → R g c → R (l.on-counts number g) (times number count c)
  pub cycle-kept : (g : G) (c : Channel) → R g c → R (l.on-cycle c g) (load.load_cycle c)
  pub tick-kept : (g : G) (c : Channel) → R g c → R (l.on-tick model c g) (tick model c)
  pub reset-kept : (g : G) (c : Channel) → R g c → R (l.on-reset g) (channel.reset c)
  pub latch-kept : (g : G) (c : Channel) → R g c → R g (latch.latch_count c)
  pub back-kept : (g : G) (c : Channel) (counts status : Bool) → R g c → R g (read_back counts status c)
  pub read_kept : (g : G) (c : Channel) → R g c → R g (read_byte c).channel
  pub dirty-kept : (g : G) (c : Channel) (dirty : Bool) → R g c → R g (with_dirty c dirty)

module _ {G : Type 0} (l : Listener G) where
  abbrev pub on_command : ℕ → Command → G → G
  on_command i Nothing g = g
  on_command i (LatchCount n) g = g
  on_command i (SetMode n word) g = cond (eqb n i) (l.on-mode word g) g
  on_command i (ReadBack word) g = g

  abbrev pub on_port : ℕ → Board → ℕ → ℕ → G → G
  on_port i b port byte g =
      cond (eqb port (0x40 + i)) (l.on-byte b.model (channel_at b i) byte b.defer g) (cond (eqb port 0x43) (on_command i (command_of b.model byte) g) g)

  abbrev pub on_ticks : PitType → ℕ → Channel → G → G
  on_ticks model zero c g = g
  on_ticks model (suc k) c g = l.on-tick model (times k (tick model) c) (on_ticks model k c g)

  -- what an accepted call does to what is kept beside channel i
  abbrev pub on_call : ℕ → Board → Operation → G → G
  on_call i b (WritePort port byte events place) g = on_port i b port byte g
  on_call i b (ReadPort port) g = g
  on_call i b (SetChannelGate n level events place) g = cond (eqb n i) (l.on-gate level g) g
  on_call i b (Counts n number) g = cond (eqb n i) (l.on-counts number g) g
  on_call i b (LoadCycle n) g = cond (eqb n i) (l.on-cycle (channel_at b i) g) g
  on_call i b (CatchUp given) g = g
  on_call i b (Run given) g = g
  on_call i b Reset g = l.on-reset g
  on_call i b (GetOutputState n) g = g
  on_call i b (GetChannelCount n) g = g
  on_call i b (DoesChannelRetrigger n) g = g
  on_call i b (IsDirty n) g = g
  on_call i b GetTimerAccum g = g
  on_call i b (WorkOff stated events place) g = on_ticks b.model (made_by (step b (WorkOff stated events place)).reply) (channel_at b i) g

  -- a byte that is written is heeded
  abbrev pub Heeded : Operation → Type 0
  Heeded o = (port byte : ℕ) (events : List ℕ) (place : ℕ) → o ≡ WritePort port byte events place → l.heeds byte

module _ {G : Type 0} (l : Listener G) (b : Board) (R : G → Channel → Type 0) (kept : Kept l b.model R) (three : length b.channels ≡ 3) (i : ℕ) (on : i < 3) (g : G)
    (now : R g (channel_at b i)) where
  abbrev Then : G → Board → Type 0
  Then h d = R h (channel_at d i)

  -- a record put at the channel's place
  placed : (h : G) (c : Channel) → R h c → Then h (with_channel b i c)
  placed h c r = subst (R h) (sym (put-found b three i on c)) r

  -- an accepted call that settles a record, which no tick owed refuses
  settled-now : (h : G) (c : Channel) (events : List ℕ) (place : ℕ) (value : Value) → R h c
      → (unless_owed b events (settle b i c events place)).reply ≡ accepted value → Then h (unless_owed b events (settle b i c events place)).board
  settled-now h c events place value r took =
      let is = not-owed b events (settle b i c events place) value took in
      subst (λ (o : Outcome). Then h o.board) (sym is)
      (subst (Then h) (sym (settle-taken b events place i c value (sym (ap (λ (o : Outcome). o.reply) is) ∙ took))) (placed h c r))

  stays : (d : Board) → channel_at d i ≡ channel_at b i → Then g d
  stays d is = subst (R g) (sym is) now

  leaves : (o : Operation) → (Touches b.model o i → ⊥) → Then g (step b o).board
  leaves o other = stays (step b o).board (untouched-stays b i o other)

  -- a call of one channel, this one or another
  by-channel : (n : ℕ) (h : G) (d : Board) → (n ≡ i → Then h d) → ((i ≡ n → ⊥) → Then g d) → (same : Bool) → eqb n i ≡ same → Then (cond same h g) d
  by-channel n h d here other true e = here (eqb-true n i e)
  by-channel n h d here other false e = other (λ is. eqb-false n i e (sym is))

  -- .. that does nothing to what is kept beside it
  on-channel : (n : ℕ) (d : Board) → (n ≡ i → Then g d) → ((i ≡ n → ⊥) → Then g d) → Then g d
  on-channel n d here other = subst (λ (h : G). Then h d) (pick_same (eqb n i) g) (by-channel n g d here other (eqb n i) refl)

  -- a control byte
  command-turn : (events : List ℕ) (place : ℕ) (value : Value) (command : Command)
      → (unless_owed b events (control_register_write b command events place)).reply ≡ accepted value
      → ((CommandTouches command i → ⊥) → Then g (unless_owed b events (control_register_write b command events place)).board)
      → Then (on_command l i command g) (unless_owed b events (control_register_write b command events place)).board
  unfolding read_back_at
  command-turn events place value Nothing took other = other (λ none. none)
  command-turn events place value (LatchCount n) took other =
      on-channel n (unless_owed b events (control_register_write b (LatchCount n) events place)).board
      (λ is.
      subst
      (λ (m : ℕ). (unless_owed b events (control_register_write b (LatchCount m) events place)).reply ≡ accepted value
      → Then g (unless_owed b events (control_register_write b (LatchCount m) events place)).board)
      (sym is)
      (settled-now g (latch.latch_count (channel_at b i)) events place value (kept.latch-kept g (channel_at b i) now))
      took)
      other
  command-turn events place value (SetMode n word) took other =
      by-channel n (l.on-mode word g) (unless_owed b events (control_register_write b (SetMode n word) events place)).board
      (λ is.
      subst
      (λ (m : ℕ). (unless_owed b events (control_register_write b (SetMode m word) events place)).reply ≡ accepted value
      → Then (l.on-mode word g) (unless_owed b events (control_register_write b (SetMode m word) events place)).board)
      (sym is)
      (settled-now (l.on-mode word g) (mode.set_mode (channel_at b i) word b.model) events place value (kept.mode-kept g (channel_at b i) word now))
      took)
      other
      (eqb n i)
      refl
  command-turn events place value (ReadBack word) took other =
      let back : R g (read_back_at word i (channel_at b i)) =
      pick-holds (R g) (names word i) _ (channel_at b i) (kept.back-kept g (channel_at b i) word.counts word.status now) now in
      by-owed (λ (o : Outcome). Then g o.board) b events (read_back_write b word events place) (λ owes. now)
      (λ none. read-backs-hold b events place word (Then g) now (subst (R g) (sym (each_read b word three i on)) back))

  -- a byte to a port
  abbrev WriteThen : ℕ → ℕ → List ℕ → ℕ → Value → Option Port → Type 0
  WriteThen port byte events place value p = (write_to b p byte events place).reply ≡ accepted value → Then (on_port l i b port byte g) (write_to b p byte events place).board

  data-turn : (n byte : ℕ) (events : List ℕ) (place : ℕ) (value : Value) → l.heeds byte → n ≡ i
      → (write_to b (Some (Data n)) byte events place).reply ≡ accepted value
      → Then (l.on-byte b.model (channel_at b i) byte b.defer g) (write_to b (Some (Data n)) byte events place).board
  data-turn n byte events place value heeded is =
      subst
      (λ (m : ℕ). (write_to b (Some (Data m)) byte events place).reply ≡ accepted value
      → Then (l.on-byte b.model (channel_at b i) byte b.defer g) (write_to b (Some (Data m)) byte events place).board)
      (sym is)
      (settled-now (l.on-byte b.model (channel_at b i) byte b.defer g) (write_byte (channel_at b i) byte b.defer) events place value
      (kept.byte-kept g (channel_at b i) byte b.defer heeded now))

  own-port : (n port byte : ℕ) (events : List ℕ) (place : ℕ) (value : Value) → l.heeds byte → port ≡ 0x40 + n → n < 3
      → (same : Bool) → eqb port (0x40 + i) ≡ same
      → (write_to b (Some (Data n)) byte events place).reply ≡ accepted value
      → Then (cond same (l.on-byte b.model (channel_at b i) byte b.defer g) (cond (eqb port 0x43) (on_command l i (command_of b.model byte) g) g))
      (write_to b (Some (Data n)) byte events place).board
  own-port n port byte events place value heeded is below true e took =
      data-turn n byte events place value heeded (let q : port ≡ 0x40 + i = eqb-true port (0x40 + i) e in omega arith) took
  own-port n port byte events place value heeded is below false e took =
      let other : port ≡ 0x40 + i → ⊥ = eqb-false port (0x40 + i) e in
      subst (λ (t : Bool). Then (cond t (on_command l i (command_of b.model byte) g) g) (write_to b (Some (Data n)) byte events place).board)
      (sym (ne_eqb port 0x43 (λ q. omega arith)))
      (stays (write_to b (Some (Data n)) byte events place).board (write-stays b i (Some (Data n)) byte events place (λ q. other (omega arith))))

  command-of : (byte : ℕ) (events : List ℕ) (place : ℕ) (value : Value) → WriteThen 0x43 byte events place value (Some CommandPort)
  command-of byte events place value took =
      subst
      (λ (t : Bool). Then (cond t (l.on-byte b.model (channel_at b i) byte b.defer g) (on_command l i (command_of b.model byte) g)) (write_to b (Some CommandPort) byte events place).board)
      (sym (ne_eqb 0x43 (0x40 + i) (λ q. omega arith)))
      (command-turn events place value (command_of b.model byte) took
      (λ other. stays (write_to b (Some CommandPort) byte events place).board (write-stays b i (Some CommandPort) byte events place other)))

  port-turn : (port byte : ℕ) (events : List ℕ) (place : ℕ) (value : Value) → l.heeds byte → WriteThen port byte events place value (port_of port)
  port-turn port byte events place value heeded =
      by-port port (WriteThen port byte events place value) (λ out took. absurd (refused-not 1 value took))
      (λ n below is. own-port n port byte events place value heeded is below (eqb port (0x40 + i)) refl)
      (λ is. subst (λ (q : ℕ). WriteThen q byte events place value (Some CommandPort)) (sym is) (command-of byte events place value))

  -- a level at a gate
  gate-turn : (n : ℕ) (level : Bool) (events : List ℕ) (place : ℕ) (value : Value) → n ≡ i
      → (set_channel_gate b n level events place).reply ≡ accepted value → Then (l.on-gate level g) (set_channel_gate b n level events place).board
  unfolding set_channel_gate
  gate-turn n level events place value is =
      subst
      (λ (m : ℕ). (set_channel_gate b m level events place).reply ≡ accepted value → Then (l.on-gate level g) (set_channel_gate b m level events place).board)
      (sym is)
      (λ took.
      rw (not-above i on)
      (settled-now (l.on-gate level g) (set_gate (channel_at b i) level) events place value (kept.gate-kept g (channel_at b i) level now) (rw (not-above i on) at took)))

  -- counts and load cycles by hand
  counts-turn : (n number : ℕ) → n ≡ i → Then (l.on-counts number g) (counts b n number).board
  unfolding counts
  counts-turn n number is =
      subst (λ (m : ℕ). Then (l.on-counts number g) (counts b m number).board) (sym is)
      (rw (not-above i on) (placed (l.on-counts number g) (times number count (channel_at b i)) (kept.counts-kept g (channel_at b i) number now)))

  cycle-turn : (n : ℕ) → n ≡ i → Then (l.on-cycle (channel_at b i) g) (load_cycle b n).board
  unfolding load_cycle
  cycle-turn n is =
      subst (λ (m : ℕ). Then (l.on-cycle (channel_at b i) g) (load_cycle b m).board) (sym is)
      (rw (not-above i on) (placed (l.on-cycle (channel_at b i) g) (load.load_cycle (channel_at b i)) (kept.cycle-kept g (channel_at b i) now)))

  -- reads and the dirty mark
  read-turn : (p : Option Port) → Then g (read_from b p).board
  read-turn (Some (Data n)) =
      on-channel n (read_from b (Some (Data n))).board
      (λ is. subst (λ (m : ℕ). Then g (read_from b (Some (Data m))).board) (sym is) (placed g (read_byte (channel_at b i)).channel (kept.read_kept g (channel_at b i) now)))
      (λ other. stays (read_from b (Some (Data n))).board (put_other b n i (read_byte (channel_at b n)).channel other))
  read-turn (Some CommandPort) = now
  read-turn None = now

  dirty-turn : (n : ℕ) → Then g (is_dirty b n).board
  unfolding is_dirty
  dirty-turn n =
      on-channel n (is_dirty b n).board
      (λ is.
      subst (λ (m : ℕ). Then g (is_dirty b m).board) (sym is)
      (rw (not-above i on) (placed g (with_dirty (channel_at b i) false) (kept.dirty-kept g (channel_at b i) false now))))
      (λ other. leaves (IsDirty n) other)

  -- a reset
  restored_at : (j : ℕ) → j < 3 → channel_at (restored b) j ≡ channel.reset (channel_at b j)
  unfolding restored
  restored_at zero below = refl
  restored_at (suc zero) below = refl
  restored_at (suc (suc zero)) below = refl
  restored_at (suc (suc (suc j))) below = absurd (omega arith)

  reset-turn : (value : Value) → (reset b).reply ≡ accepted value → Then (l.on-reset g) (reset b).board
  unfolding reset
  reset-turn value took =
      subst (λ (o : Outcome). Then (l.on-reset g) o.board) (sym (not-owed b [] (accept done (restored b)) value took))
      (subst (R (l.on-reset g)) (sym (restored_at i on)) (kept.reset-kept g (channel_at b i) now))

  -- ticks
  ticks-turn : (k : ℕ) → (channel_at (times k board_tick b) i ≡ times k (tick b.model) (channel_at b i)) × R (on_ticks l b.model k (channel_at b i) g) (times k (tick b.model) (channel_at b i))
  ticks-turn zero = (refl, now)
  ticks-turn (suc k) =
      let before = ticks-turn k in
      (next-tick b i on k ∙ ap (tick b.model) before.0, kept.tick-kept _ _ before.1)

  work-turn : (stated : ℕ) (events : List ℕ) (place : ℕ)
      → Then (on_ticks l b.model (made_by (work_off b stated events place).reply) (channel_at b i) g) (work_off b stated events place).board
  work-turn stated events place =
      let made = made_by (work_off b stated events place).reply in
      subst (Then (on_ticks l b.model made (channel_at b i) g)) (sym (ticks-made b stated events place))
      (subst (R (on_ticks l b.model made (channel_at b i) g)) (sym (ticks-turn made).0) (ticks-turn made).1)

  -- every accepted call
  pub call_kept : (o : Operation) → Heeded l o → (value : Value) → (step b o).reply ≡ accepted value → R (on_call l i b o g) (channel_at (step b o).board i)
  unfolding write_port read_port
  call_kept (WritePort port byte events place) heeded value took = port-turn port byte events place value (heeded port byte events place refl) took
  call_kept (ReadPort port) heeded value took = read-turn (port_of port)
  call_kept (SetChannelGate n level events place) heeded value took =
      by-channel n (l.on-gate level g) (set_channel_gate b n level events place).board (λ is. gate-turn n level events place value is took)
      (λ other. leaves (SetChannelGate n level events place) other)
      (eqb n i)
      refl
  call_kept (Counts n number) heeded value took =
      by-channel n (l.on-counts number g) (counts b n number).board (counts-turn n number) (λ other. leaves (Counts n number) other) (eqb n i) refl
  call_kept (LoadCycle n) heeded value took =
      by-channel n (l.on-cycle (channel_at b i) g) (load_cycle b n).board (cycle-turn n) (λ other. leaves (LoadCycle n) other) (eqb n i) refl
  call_kept (CatchUp given) heeded value took = leaves (CatchUp given) (λ none. none)
  call_kept (Run given) heeded value took = leaves (Run given) (λ none. none)
  call_kept Reset heeded value took = reset-turn value took
  call_kept (GetOutputState n) heeded value took = leaves (GetOutputState n) (λ none. none)
  call_kept (GetChannelCount n) heeded value took = leaves (GetChannelCount n) (λ none. none)
  call_kept (DoesChannelRetrigger n) heeded value took = leaves (DoesChannelRetrigger n) (λ none. none)
  call_kept (IsDirty n) heeded value took = dirty-turn n
  call_kept GetTimerAccum heeded value took = leaves GetTimerAccum (λ none. none)
  call_kept (WorkOff stated events place) heeded value took = work-turn stated events place
