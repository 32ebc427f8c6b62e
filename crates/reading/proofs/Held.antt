-- What the words of a read are worth (specs/Held.antt). Where a channel is held after an accepted call, it was held before it, at the same count, or the call is the latch that
-- took the count. Assumes nothing.
use Prim.Native.Nat.{ℕ, ◌<◌}
use mathlib.Core.Bool.{Bool, true, false, false≢true}
use mathlib.Core.List.{List, [], ◌∷◌}
use mathlib.Core.Logic.{◌⊎◌, inl, inr, ⊎_elim}
use mathlib.Core.Path.{◌≡◌, refl, sym, ap, subst, ◌∙◌}
use native.Mathlib.Omega.{arith}
use lib.Dec.{eqb}
use lib.ListN.{length}
use Rattle.refusal.specs.Reply.{Reply}
use Rattle.channel.specs.declared.Channel.{Channel}
use Rattle.channel.specs.declared.ControlWord.{ControlWord}
use Rattle.channel.specs.declared.Latch.{Latch}
use Rattle.channel.specs.declared.PitType.{PitType}
use Rattle.channel.specs.declared.ReadState.TheVariants.{NoRead, ReadLsb}
use Rattle.control.specs.declared.Command.{Command}
use Rattle.control.specs.declared.Command.TheVariants.{Nothing, LatchCount, SetMode, ReadBack}
use Rattle.control.specs.declared.ReadBackWord.{ReadBackWord}
use Rattle.control.specs.Control.{names, command_of}
use Rattle.latch.specs.declared.label.Label.{Label}
use Rattle.latch.specs.Latching.{latch_count}
use Rattle.latch.specs.Reading.{read_byte}
use Rattle.latch.specs.declared.reading.Half.{Half}
use Rattle.latch.specs.declared.reading.Half.TheVariants.{Low, High}
use Rattle.latch.specs.declared.reading.ByteRead.{ByteRead}
use Rattle.latch.specs.Status.{no_status}
use Rattle.latch.specs.ReadBack.{read_back}
use Rattle.latch.specs.Label.{status_label, label_of, IsHalf, with_value}
use Rattle.latch.proofs.Words.{status-read, read-once}
use Rattle.latch.proofs.Labels.{count-label, status-label, low_or_high, label-half, label_same, Starts, starts-held, read_left, read-latches-nothing}
use Rattle.latch.proofs.ReadBacks.{back-kept, back-taken, back-unasked}
use Rattle.mode.specs.Mode.{set_mode}
use Rattle.load.specs.Cycle as channel
use Rattle.board.specs.declared.Board.{Board}
use Rattle.board.specs.declared.PortRead.{PortRead}
use Rattle.board.specs.Board.{channel_at}
use Rattle.board.specs.Counting.{load_cycle}
use Rattle.board.specs.Outcome.{Outcome, Value}
use Rattle.board.proofs.Channels.{put-found, not-above}
use Rattle.ports.specs.declared.port.Port.{Port}
use Rattle.ports.specs.declared.port.Port.TheVariants as port
use Rattle.std.specs.Prelude.{Option, Some, None}
use Rattle.ports.specs.Port.{port_of}
use Rattle.ports.specs.Reads.{read_from, read_port}
use Rattle.ports.proofs.Below.{command-port}
use Rattle.ports.proofs.CommandRead.{command-read}
use Rattle.step.specs.Operation.{Operation, WritePort, ReadPort, SetChannelGate, Counts, LoadCycle, CatchUp, Run, Reset, GetOutputState, GetChannelCount, DoesChannelRetrigger, IsDirty, GetTimerAccum, WorkOff}
use Rattle.step.specs.Step.{step, steps}
use Rattle.step.specs.Accepted.{IsAccepted, unless_refused, accepted_of}
use Rattle.step.specs.Touched.{CommandTouches, ReadTouches}
use Rattle.step.proofs.Accepted.{steps-both, by-reply}
use Rattle.step.proofs.Kept.{settings-kept, steps-model}
use Rattle.step.proofs.Leaves.{refused-leaves}
use Rattle.step.proofs.Three.{step-three, steps-three}
use Rattle.reading.specs.Passing.{MayWrite, AllMayPass}
use Rattle.reading.specs.Reading.{read_of, control_write, latch, half_read}
use Rattle.reading.specs.Spelling.{Says}
use Rattle.reading.specs.Held.{with_output_latch, SaysItsHalf, StatusIsSaid, CommandSaysNothing, TakesCount, Latches, IsHeld, HeldOver, TakenBy, OfOneLatch, HeldByte, LeavesLatch, AllLeaveLatch, at_low, at_high, OneLatch, LatchAmongCalls, ReadingIsHeld, LiveThenHeld, LatchIsSaid}
use Rattle.reading.proofs.May.{not-latched}
use Rattle.reading.proofs.Counted.{Undisturbed, undisturbed-none, undisturbed-then, cycle-undisturbed}
use Rattle.reading.proofs.Spelling.{same_read}
use Rattle.reading.proofs.Passing.{by-same, accepted-passes}
use Rattle.reading.proofs.Holds.{Holds, undisturbed-holds, first_byte, first_holds, second-byte}
use Rattle.reading.proofs.Turns.{read-reply, read-leaves, command-turn, read-back-turn}
use Rattle.reading.proofs.Beginnings.{reset-begins}
use Rattle.reading.proofs.Promise.{reads-the-count}

-- neither half of a count
low-not-neither : ◌≡◌ {A = Option Half} (Some Low) None → ⊥
low-not-neither e = let z : ◌≡◌ {A = ℕ} 0 1 = cc in omega arith

high-not-neither : ◌≡◌ {A = Option Half} (Some High) None → ⊥
high-not-neither e = let z : ◌≡◌ {A = ℕ} 0 1 = cc in omega arith

held-now : (b : Board) (i : ℕ) (os : List Operation) (count : ℕ) → HeldOver b i os count → IsHeld b i count
held-now b i [] count h = h
held-now b i (o ∷ os) count h = h.0

module _ (b : Board) (three : length b.channels ≡ 3) (i : ℕ) (on : i < 3) where
  cycle-here : Undisturbed (channel_at b i) (channel_at (load_cycle b i).board i)
  unfolding load_cycle
  cycle-here =
      rw (not-above i on)
      (subst (λ (c : Channel). Undisturbed (channel_at b i) c) (sym (put-found b three i on (channel.load_cycle (channel_at b i)))) (cycle-undisturbed (channel_at b i)))

  leaves : (o : Operation) → LeavesLatch b.model i o → IsAccepted b o → Undisturbed (channel_at b i) (channel_at (step b o).board i)
  leaves o (inl may) took = (accepted-passes b three i on o may took).undisturbed
  leaves o (inr is) took = subst (λ (q : Operation). Undisturbed (channel_at b i) (channel_at (step b q).board i)) (sym is) cycle-here

  -- the first call of a list, of which the accepted ones leave the latch, and what is left of the list
  first-leaves : (o : Operation) (os : List Operation) → AllLeaveLatch b.model i (accepted_of b (o ∷ os))
      → Undisturbed (channel_at b i) (channel_at (step b o).board i) × AllLeaveLatch b.model i (accepted_of (step b o).board os)
  first-leaves o os =
      let later = accepted_of (step b o).board os in
      by-reply b o
      (λ (reply : Reply Value).
      AllLeaveLatch b.model i (unless_refused reply later (o ∷ later)) → Undisturbed (channel_at b i) (channel_at (step b o).board i) × AllLeaveLatch b.model i later)
      (λ number e all. (rw (refused-leaves b o number e).0 (undisturbed-none (channel_at b i)), all))
      (λ value e all. (leaves o all.0 (value, e), all.1))

  module _ (count : ℕ) where
    -- where the channel is held after the call: it was before, or the call is a latch of it
    abbrev Before : Operation → Type 0
    Before o = IsHeld (step b o).board i count → IsHeld b i count ⊎ (Latches b.model i o × ((channel_at b i).counter.counting_element ≡ count))

    left : (o : Operation) → LeavesLatch b.model i o → IsAccepted b o → Before o
    left o leaving took h =
        let u = leaves o leaving took in
        let latched : (channel_at b i).latch.count_is_latched ≡ true = sym u.same-latched ∙ h.latched in
        inl (record { latched = latched; holds = sym (ap (λ (l : Latch). l.output_latch) (u.still-held latched)) ∙ h.holds })

    unlatched : (o : Operation) → (channel_at (step b o).board i).latch.count_is_latched ≡ false → Before o
    unlatched o free h = absurd (false≢true (sym free ∙ h.latched))

    -- a control byte, by its command
    latch-before : (x : ℕ) (events : List ℕ) (place : ℕ) → command_of b.model x ≡ LatchCount i → IsAccepted b (control_write x events place) → Before (control_write x events place)
    unfolding latch_count
    latch-before x events place is took h =
        let after : channel_at (step b (control_write x events place)).board i ≡ latch_count (channel_at b i) =
        command-turn b three i on x events place (LatchCount i) (latch_count (channel_at b i)) is refl took in
        inr (record { byte = x; events = events; place = place; is = refl; command = subst (λ (k : Command). TakesCount k i) (sym is) refl }, sym (ap (λ (c : Channel). c.latch.output_latch) after) ∙ h.holds)

    mode-before : (x : ℕ) (events : List ℕ) (place : ℕ) (word : ControlWord) → command_of b.model x ≡ SetMode i word → IsAccepted b (control_write x events place)
        → Before (control_write x events place)
    unfolding set_mode
    mode-before x events place word is took =
        unlatched (control_write x events place)
        (ap (λ (c : Channel). c.latch.count_is_latched)
        (command-turn b three i on x events place (SetMode i word) (set_mode (channel_at b i) word b.model) is refl took))

    elsewhere : (x : ℕ) (events : List ℕ) (place : ℕ) → (CommandTouches (command_of b.model x) i → ⊥) → IsAccepted b (control_write x events place)
        → Before (control_write x events place)
    unfolding port_of
    elsewhere x events place other took = left (control_write x events place) (inl other) took

    -- a read-back of the channel: it takes the count where none is held and it asks for counts, and else it leaves the latch
    named-before : (x : ℕ) (events : List ℕ) (place : ℕ) (word : ReadBackWord) → command_of b.model x ≡ ReadBack word → names word i ≡ true
        → IsAccepted b (control_write x events place) → Before (control_write x events place)
    unfolding latch_count
    named-before x events place word is named took h = go c.latch.count_is_latched word.counts refl refl
      where
        c : Channel
        c = channel_at b i

        after : (channel_at (step b (control_write x events place)).board i).latch ≡ (read_back word.counts word.status c).latch
        after = ap (λ (d : Channel). d.latch) (read-back-turn b three i on x events place word is named took)

        go : (held asked : Bool) → c.latch.count_is_latched ≡ held → word.counts ≡ asked
            → IsHeld b i count ⊎ (Latches b.model i (control_write x events place) × (c.counter.counting_element ≡ count))
        go true asked was counts =
            inl (record { latched = was; holds = sym (ap (λ (l : Latch). l.output_latch) (after ∙ back-kept word.counts word.status c was)) ∙ h.holds })
        go false true was counts =
            inr (
              record { byte = x; events = events; place = place; is = refl; command = subst (λ (k : Command). TakesCount k i) (sym is) (named, counts) },
              sym (ap (λ (l : Latch). l.output_latch) (after ∙ back-taken word.counts word.status c counts was)) ∙ h.holds,
            )
        go false false was counts =
            absurd (false≢true (sym was ∙ sym (ap (λ (l : Latch). l.count_is_latched) (after ∙ back-unasked word.counts word.status c counts)) ∙ h.latched))

    read-back-before : (x : ℕ) (events : List ℕ) (place : ℕ) (word : ReadBackWord) → command_of b.model x ≡ ReadBack word
        → IsAccepted b (control_write x events place) → (named : Bool) → names word i ≡ named → Before (control_write x events place)
    read-back-before x events place word is took true named = named-before x events place word is named took
    read-back-before x events place word is took false other =
        elsewhere x events place (λ touches. false≢true (sym other ∙ subst (λ (k : Command). CommandTouches k i) is touches)) took

    command-before : (x : ℕ) (events : List ℕ) (place : ℕ) (command : Command) → command_of b.model x ≡ command → IsAccepted b (control_write x events place)
        → Before (control_write x events place)
    command-before x events place Nothing is took = elsewhere x events place (λ touches. subst (λ (c : Command). CommandTouches c i) is touches) took
    command-before x events place (LatchCount n) is took =
        by-same i n (Before (control_write x events place)) (λ same. latch-before x events place (is ∙ ap LatchCount same) took)
        (λ other. elsewhere x events place (λ touches. other (subst (λ (c : Command). CommandTouches c i) is touches)) took)
    command-before x events place (SetMode n word) is took =
        by-same i n (Before (control_write x events place)) (λ same. mode-before x events place word (is ∙ ap (λ (m : ℕ). SetMode m word) same) took)
        (λ other. elsewhere x events place (λ touches. other (subst (λ (c : Command). CommandTouches c i) is touches)) took)
    command-before x events place (ReadBack word) is took = read-back-before x events place word is took (names word i) refl

    write-before : (number x : ℕ) (events : List ℕ) (place : ℕ) → IsAccepted b (WritePort number x events place) → Before (WritePort number x events place)
    write-before number x events place took = written (port_of number) refl
      where
        written : (p : Option Port) → port_of number ≡ p → Before (WritePort number x events place)
        written (Some (port.Data n)) e = left (WritePort number x events place) (inl (subst (λ (q : Option Port). MayWrite b.model i q x) (sym e) tt)) took
        written None e = left (WritePort number x events place) (inl (subst (λ (q : Option Port). MayWrite b.model i q x) (sym e) tt)) took
        written (Some port.Command) e =
            subst (λ (m : ℕ). IsAccepted b (WritePort m x events place) → Before (WritePort m x events place)) (sym (command-port number e))
            (command-before x events place (command_of b.model x) refl)
            took

    -- a read after which the channel is latched was of a held status, or the first of a word, and left the latch
    read-before : (number : ℕ) → port_of number ≡ Some (port.Data i) → Before (ReadPort number)
    unfolding read_port
    read-before number e h =
        let c = channel_at b i in
        let after : channel_at (step b (ReadPort number)).board i ≡ (read_byte c).channel =
        ap (λ (o : Outcome). channel_at o.board i) (ap (read_from b) e) ∙ put-found b three i on _ in
        let left = read_left c (ap (λ (d : Channel). d.latch.count_is_latched) (sym after) ∙ h.latched) in
        inl
        (record {
          latched = left.0;
          holds = sym (ap (λ (d : Channel). d.latch.output_latch) after ∙ left.1) ∙ h.holds;
        })

    port-before : (number : ℕ) → IsAccepted b (ReadPort number) → Before (ReadPort number)
    port-before number took = asked (port_of number) refl
      where
        asked : (p : Option Port) → port_of number ≡ p → Before (ReadPort number)
        asked (Some (port.Data n)) e =
            by-same i n (Before (ReadPort number)) (λ same. read-before number (e ∙ ap (λ (m : ℕ). Some (port.Data m)) same))
            (λ other. left (ReadPort number) (inl (λ touches. other (subst (λ (q : Option Port). ReadTouches q i) e touches))) took)
        asked (Some port.Command) e = left (ReadPort number) (inl (λ touches. subst (λ (q : Option Port). ReadTouches q i) e touches)) took
        asked None e = left (ReadPort number) (inl (λ touches. subst (λ (q : Option Port). ReadTouches q i) e touches)) took

    before : (o : Operation) → IsAccepted b o → Before o
    before (WritePort number x events place) took = write-before number x events place took
    before (ReadPort number) took = port-before number took
    before (SetChannelGate n level events place) took = left (SetChannelGate n level events place) (inl tt) took
    before (Counts n number) took = left (Counts n number) (inl tt) took
    before (LoadCycle n) took =
        by-same i n (Before (LoadCycle n)) (λ same. left (LoadCycle n) (inr (ap LoadCycle same)) took) (λ other. left (LoadCycle n) (inl other) took)
    before (CatchUp given) took = left (CatchUp given) (inl tt) took
    before (Run given) took = left (Run given) (inl tt) took
    before Reset took = unlatched Reset (not-latched (channel_at (step b Reset).board i) (reset-begins b i on took).may)
    before (GetOutputState n) took = left (GetOutputState n) (inl tt) took
    before (GetChannelCount n) took = left (GetChannelCount n) (inl tt) took
    before (DoesChannelRetrigger n) took = left (DoesChannelRetrigger n) (inl tt) took
    before (IsDirty n) took = left (IsDirty n) (inl tt) took
    before GetTimerAccum took = left GetTimerAccum (inl tt) took
    before (WorkOff stated events place) took = left (WorkOff stated events place) (inl tt) took

    -- a count that the channel has held since the first call of a list
    held_first : (o : Operation) (os : List Operation) → HeldOver (step b o).board i os count → OfOneLatch b i (o ∷ os) count
    held_first o os over =
        by-reply b o (λ (reply : Reply Value). OfOneLatch b i (o ∷ os) count)
        (λ number e. inr (subst (λ (d : Board). IsHeld d i count) (refused-leaves b o number e).0 (now-held over), over))
        (λ value e. found (value, e) (before o (value, e) (now-held over)))
      where
        now-held : HeldOver (step b o).board i os count → IsHeld (step b o).board i count
        now-held h = held-now (step b o).board i os count h

        found : IsAccepted b o → IsHeld b i count ⊎ (Latches b.model i o × ((channel_at b i).counter.counting_element ≡ count)) → OfOneLatch b i (o ∷ os) count
        found took (inl held) = inr (held, over)
        found took (inr l) =
            inl
            (record {
              before = [];
              latching = o;
              after = os;
              are = refl;
              latches = l.0;
              is-accepted = took;
              element = l.1;
              since = over;
            })

all-leave : (b : Board) → length b.channels ≡ 3 → (i : ℕ) → i < 3 → (os : List Operation) → AllLeaveLatch b.model i (accepted_of b os)
    → Undisturbed (channel_at b i) (channel_at (steps b os) i)
all-leave b three i on [] all = undisturbed-none (channel_at b i)
all-leave b three i on (o ∷ os) all =
    let first = first-leaves b three i on o os all in
    let later = subst (λ (model : PitType). AllLeaveLatch model i (accepted_of (step b o).board os)) (sym (settings-kept b o).0) first.1 in
    undisturbed-then first.0 (all-leave (step b o).board (step-three b three o) i on os later)

-- a call before them does not matter
later : {b : Board} {i : ℕ} {os : List Operation} {count : ℕ} (o : Operation) → TakenBy (step b o).board i os count → TakenBy b i (o ∷ os) count
later {b} {i} o t =
    record {
      before = o ∷ t.before;
      latching = t.latching;
      after = t.after;
      are = ap (λ (l : List Operation). o ∷ l) t.are;
      latches = subst (λ (model : PitType). Latches model i t.latching) (settings-kept b o).0 t.latches;
      is-accepted = t.is-accepted;
      element = t.element;
      since = t.since;
    }

-- what is held after a list of calls is the count that one latch took
of-one-latch : (b : Board) → length b.channels ≡ 3 → (i : ℕ) → i < 3 → (os : List Operation) (count : ℕ) → IsHeld (steps b os) i count → OfOneLatch b i os count
of-one-latch b three i on [] count h = inr h
of-one-latch b three i on (o ∷ os) count h = ⊎_elim (λ taken. inl (later o taken)) (held_first b three i on count o os) (of-one-latch (step b o).board (step-three b three o) i on os count h)

-- the byte and the words of an accepted read are those of the channel's record
read-said : (b : Board) (i : ℕ) → i < 3 → (x : ℕ) (label : Label) → Says x label (step b (read_of i)).reply
    → ((read_byte (channel_at b i)).byte ≡ x) × (label_of (channel_at b i) ≡ label)
read-said b i on x label says =
    let same = same_read _ _ (sym (read-reply b i on) ∙ says) in
    (ap (λ (r : PortRead). r.byte) same, ap (λ (r : PortRead). r.label) same)

pub says-its-half : SaysItsHalf
says-its-half b i on three none x label says =
    let c = channel_at b i in
    let said = read-said b i on x label says in
    record {
      low_or_high = subst (λ (l : Label). l.half ≡ None → ⊥) said.1 (low_or_high c none);
      half =
          subst (λ (l : Label). IsHalf l.half x c.latch.output_latch) said.1
          (subst (λ (y : ℕ). IsHalf (label_of c).half y c.latch.output_latch) said.0 (label-half c c.latch.output_latch));
      mark = sym (ap (λ (l : Label). l.held) said.1) ∙ ap (λ (l : Label). l.held) (count-label c none);
      of-any-value = λ v. (
        (read_byte (with_value c v)).byte,
        subst (λ (l : Label). IsHalf l.half (read_byte (with_value c v)).byte v) said.1 (label-half c v),
        rw (put-found b three i on (with_value c v), label_same c v, said.1) at (read-reply (with_output_latch b i v) i on),
      );
    }

pub command-says-nothing : CommandSaysNothing
command-says-nothing = command-read

pub status-is-said : StatusIsSaid
status-is-said b i on three held x label says =
    let c = channel_at b i in
    let said = read-said b i on x label says in
    let after = read-leaves b three i on in
    record {
      none-held = sym said.1 ∙ status-label c held;
      status = sym said.0 ∙ ap (λ (r : ByteRead). r.byte) (status-read c held);
      once = ap no_status after ∙ read-once c;
      undisturbed = ap (λ (d : Channel). d.latch) after ∙ ap (λ (r : ByteRead). r.channel.latch) (status-read c held);
    }

-- words other than `none held` are not of a status
not-status : (b : Board) (i : ℕ) → i < 3 → (x : ℕ) (label : Label) → Says x label (step b (read_of i)).reply → (label ≡ status_label → ⊥)
    → no_status (channel_at b i) ≡ true
not-status b i on x label says other = go (no_status (channel_at b i)) refl
  where
    go : (none : Bool) → no_status (channel_at b i) ≡ none → no_status (channel_at b i) ≡ true
    go true e = e
    go false e = absurd (other (sym (read-said b i on x label says).1 ∙ status-label (channel_at b i) e))

pub held-byte : HeldByte
held-byte b i on three calls x label says held whole =
    let none = not-status (steps b calls) i on x label says (λ is. whole (ap (λ (l : Label). l.half) is)) in
    let s = says-its-half (steps b calls) i on (steps-three b three calls) none x label says in
    let count = (channel_at (steps b calls) i).latch.output_latch in
    (count, s.half, of-one-latch b three i on calls count (record { latched = sym s.mark ∙ held; holds = refl }))

pub latch-among-calls : LatchAmongCalls
latch-among-calls b i calls count free = ⊎_elim (λ taken. taken) (λ over. absurd (false≢true (sym free ∙ (held-now b i calls count over).latched)))

pub live-then-held : LiveThenHeld
live-then-held b i on three x first says live between y second says-later held whole =
    let c = channel_at b i in
    let none = not-status b i on x first says (λ is. false≢true (sym live ∙ ap (λ (l : Label). l.held) is)) in
    let free : c.latch.count_is_latched ≡ false =
    sym (ap (λ (l : Label). l.held) (count-label c none)) ∙ ap (λ (l : Label). l.held) (read-said b i on x first says).1 ∙ live in
    let after : (channel_at (step b (read_of i)).board i).latch.count_is_latched ≡ false =
    ap (λ (d : Channel). d.latch.count_is_latched) (read-leaves b three i on) ∙ read-latches-nothing c free in
    let all = held-byte (step b (read_of i)).board i on (step-three b three (read_of i)) between y second says-later held whole in
    (all.0, all.1, latch-among-calls (step b (read_of i)).board i between all.0 after all.2)

pub one-latch : OneLatch
one-latch b i on three calls between x y w =
    let c = channel_at (at_low b i calls between) i in
    let d = channel_at (at_high b i calls between) i in
    let three-low = steps-three b three calls in
    let first = read-said (at_low b i calls between) i on x _ w.first in
    let second = read-said (at_high b i calls between) i on y _ w.second in
    let u : Undisturbed (read_byte c).channel d =
    rw (read-leaves (at_low b i calls between) three-low i on) at
    (all-leave (step (at_low b i calls between) (read_of i)).board (step-three (at_low b i calls between) three-low (read_of i)) i on between
    (subst (λ (model : PitType). AllLeaveLatch model i (accepted_of (step (at_low b i calls between) (read_of i)).board between))
    (sym ((settings-kept (at_low b i calls between) (read_of i)).0 ∙ steps-model b calls))
    w.between-leave)) in
    let none = not-status (at_low b i calls between) i on x _ w.first (λ is. low-not-neither (ap (λ (l : Label). l.half) is)) in
    let later = not-status (at_high b i calls between) i on y _ w.second (λ is. high-not-neither (ap (λ (l : Label). l.half) is)) in
    let latched-high : d.latch.count_is_latched ≡ true = sym (ap (λ (l : Label). l.held) (count-label d later)) ∙ ap (λ (l : Label). l.held) second.1 in
    let s : Starts c = starts-held c none (sym u.same-latched ∙ latched-high) in
    let count = c.latch.output_latch in
    let holds : Holds count NoRead c = record { no-status = none; access = s.access; latched = s.held; held = refl; half-read = s.whole } in
    let still : Holds count ReadLsb d = undisturbed-holds u (first_holds c count holds) in (
      count,
      sym first.0 ∙ first_byte c count holds,
      sym second.0 ∙ second-byte d count still,
      of-one-latch b three i on calls count (record { latched = s.held; holds = refl }),
    )

may-leave : (model : PitType) (i : ℕ) (os : List Operation) → AllMayPass model i os → AllLeaveLatch model i os
may-leave model i [] may = tt
may-leave model i (o ∷ os) may = (inl may.0, may-leave model i os may.1)

pub reading-is-held : ReadingIsHeld
reading-is-held b i bcd v calls reading =
    let spelled = reads-the-count b i bcd v calls reading in
    let both = steps-both b calls.before (latch calls ∷ calls.after) in
    record {
      first = rw both spelled.0;
      between-leave = rw both (may-leave b.model i (accepted_of (half_read b i calls) calls.between) reading.between-may);
      second = rw both spelled.1;
    }

-- what the next read of a held channel says
held-is-said : (b : Board) (i : ℕ) → i < 3 → (count : ℕ) → IsHeld b i count → no_status (channel_at b i) ≡ true
    → (x : ℕ) × (label : Label) × Says x label (step b (read_of i)).reply × (label.held ≡ true) × (label.half ≡ None → ⊥) × IsHalf label.half x count
held-is-said b i on count h none =
    let c = channel_at b i in (
      (read_byte c).byte,
      label_of c,
      read-reply b i on,
      ap (λ (l : Label). l.held) (count-label c none) ∙ h.latched,
      low_or_high c none,
      subst (λ (v : ℕ). IsHalf (label_of c).half (read_byte c).byte v) h.holds (label-half c c.latch.output_latch),
    )

pub latch-is-said : LatchIsSaid
unfolding latch_count
latch-is-said b i on three none byte events place latches took between all =
    let c = channel_at b i in
    let latching = control_write byte events place in
    let made : channel_at (step b latching).board i ≡ latch_count c = command-turn b three i on byte events place (LatchCount i) (latch_count c) latches refl took in
    let latched : (channel_at (step b latching).board i).latch.count_is_latched ≡ true = ap (λ (d : Channel). d.latch.count_is_latched) made in
    let u =
    all-leave (step b latching).board (step-three b three latching) i on between
    (subst (λ (model : PitType). AllLeaveLatch model i (accepted_of (step b latching).board between)) (sym (settings-kept b latching).0) all) in
    held-is-said (steps (step b latching).board between) i on c.counter.counting_element
    (record {
      latched = u.same-latched ∙ latched;
      holds = ap (λ (k : Latch). k.output_latch) (u.still-held latched) ∙ ap (λ (d : Channel). d.latch.output_latch) made;
    })
    (ap (λ (s : ℕ). eqb s 0) u.same-status ∙ ap no_status made ∙ none)
