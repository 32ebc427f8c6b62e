-- What holds of every refusal and of every accepted outcome that changes only channels and keeps their number and the lent bytes' length holds of every
-- step that leaves the owed ticks; what holds of ticks worked off too, of every step but the time calls; and with these of every step. Assumes nothing.
use Prim.Native.Nat.{ℕ, ◌+◌, ◌-◌, ◌≤◌}
use mathlib.Core.Logic.{◌⊎◌, inl, inr, ⊎_elim}
use mathlib.Core.Path.{◌≡◌, refl, sym, ap, ◌∙◌}
use mathlib.Core.Bool.{Bool, true, false, true≢false}
use mathlib.Core.List.{List, []}
use lib.Dec.{ltb}
use lib.ListN.{length, set, length-set}
use borrow.Author.Tests.{ltb-false}
use Rattle.refusal.specs.Reply.{Reply, accepted}
use Rattle.channel.specs.declared.Channel.{Channel}
use Rattle.channel.proofs.Pick.{pick-holds, pick-knowing}
use Rattle.control.specs.declared.Command.{Command}
use Rattle.control.specs.declared.Command.TheVariants.{Nothing, LatchCount, SetMode, ReadBack}
use Rattle.control.specs.Control.{command_of}
use Rattle.event.specs.declared.Event.{Event}
use Rattle.std.specs.Prelude.{Option, Some, None}
use Rattle.event.specs.Event.{Placing, place_event}
use Rattle.event.proofs.Room.{by-unchanged, by_level}
use Rattle.event.proofs.Written.{event-written}
use Rattle.time.specs.Time.{Yield, converted, summed}
use Rattle.board.specs.declared.Board.{Board}
use Rattle.board.specs.Board.{with_channels}
use Rattle.board.specs.Outcome.{Outcome, Value, done, new_place, refuse, accept, on_channel, unless_owed}
use Rattle.board.proofs.Channels.{by-channel}
use Rattle.board.specs.Making.{restored, reset}
use Rattle.board.specs.Counting.{counts, load_cycle}
use Rattle.board.specs.Queries.{get_output_state, get_channel_count, does_channel_retrigger, is_dirty}
use Rattle.clock.specs.Clock.{elapsed, yielding, timely, catch_up, run}
use Rattle.clock.proofs.Tests.{by-time}
use Rattle.ports.specs.declared.port.Port.{Port}
use Rattle.ports.specs.declared.port.Port.TheVariants.{Data, Command as CommandPort}
use Rattle.ports.specs.Port.{port_of}
use Rattle.ports.specs.Settle.{placed_on, settle, untouched}
use Rattle.ports.specs.ReadBacks.{read_backs}
use Rattle.ports.proofs.ReadingBacks.{three-left}
use Rattle.ports.specs.Gates.{set_channel_gate}
use Rattle.ports.specs.Reads.{read_from, read_port}
use Rattle.ports.specs.Writes.{control_register_write, write_to, write_port}
use Rattle.owed.specs.Worked.{Work, report, work_off}
use Rattle.step.specs.Operation.{Operation, WritePort, ReadPort, SetChannelGate, Counts, LoadCycle, CatchUp, Run, Reset, GetOutputState, GetChannelCount, DoesChannelRetrigger, IsDirty, GetTimerAccum, WorkOff, kind_of, lent}
use Rattle.step.specs.Step.{step}
use Rattle.step.specs.Time.{ticks_in, if_accepted, system_taken, is_time_call}
use Rattle.step.specs.Owed.{made_in, changes_owed}
use Rattle.step.proofs.Owing.{by-owed, by-timely}
use Rattle.step.proofs.Working.{Underway, neither, worked-on}

-- an answer that tells neither of timer ticks yielded nor of ticks made
abbrev pub Plain : Value → Type 0
Plain value = (ticks_in value ≡ 0) × (made_in value ≡ 0)

-- "Catch-up then sets the warp to its ticks ...; run sets the warp to 0"
abbrev pub Leaves : Operation → ℕ → ℕ → Type 0
Leaves o given warp = ((o ≡ CatchUp given) × (warp ≡ given)) ⊎ ((o ≡ Run given) × (warp ≡ 0))

leaves-timed : (o : Operation) (given warp : ℕ) → Leaves o given warp → (kind_of o).timed ≡ true
leaves-timed o given warp =
    let timed : Operation → Bool = λ p. (kind_of p).timed in
    ⊎_elim (λ catches. ap timed catches.0) (λ runs. ap timed runs.0)

-- P speaks of the lent bytes, of the system ticks taken in, and of the outcome
module _ (b : Board) (P : List ℕ → ℕ → Outcome → Type 0)
    (refuses : (events : List ℕ) (number : ℕ) → P events 0 (refuse number b events))
    (accepts : (events bytes : List ℕ) (value : Value) (channels : List Channel) → Plain value → length bytes ≡ length events
    → (length b.channels ≡ 3 → length channels ≡ 3)
    → P events 0 (record { reply = accepted value; board = with_channels b channels; events = bytes }))
  where
    put_three : (n : ℕ) (c : Channel) → length b.channels ≡ 3 → length (set b.channels n c) ≡ 3
    put_three n c three = length-set b.channels n c ∙ three

    accepted-on : (n : ℕ) (value : Value) (channels : List Channel) → Plain value → (length b.channels ≡ 3 → length channels ≡ 3)
        → P [] 0 (on_channel b n [] (accept value (with_channels b channels)))
    accepted-on n value channels plain three =
        by-channel (P [] 0) b n [] _ (refuses [] 2) (λ on. accepts [] [] value channels plain refl three)

    owing-every : (events : List ℕ) (outcome : Outcome) → P events 0 outcome → P events 0 (unless_owed b events outcome)
    owing-every events outcome holds = by-owed (P events 0) b events outcome (λ owes. refuses events 16) (λ none. holds)

    event-every : (event : Option Event) (channels : List Channel) (events : List ℕ) (place : ℕ) → (length b.channels ≡ 3 → length channels ≡ 3)
        → P events 0 (placed_on b (with_channels b channels) (place_event event events place))
    event-every None channels events place three =
        by-unchanged events place (λ (p : Placing). P events 0 (placed_on b (with_channels b channels) p)) (λ past. refuses events 7)
        (λ inside. accepts events events (new_place place) channels (refl, refl) refl three)
    event-every (Some event) channels events place three =
        by_level events place (λ (p : Placing). P events 0 (placed_on b (with_channels b channels) p)) (λ past. refuses events 7) event.channel event.level
        (λ inside few. refuses events 8)
        (λ room. accepts events _ (new_place (place + 2)) channels (refl, refl) (event-written event.channel event.level events place room).same_length three)

    command-every : (command : Command) (events : List ℕ) (place : ℕ) → P events 0 (control_register_write b command events place)
    unfolding settle untouched read_backs
    command-every Nothing events place = event-every _ b.channels events place (λ three. three)
    command-every (LatchCount n) events place = event-every _ _ events place (put_three n _)
    command-every (SetMode n word) events place = event-every _ _ events place (put_three n _)
    command-every (ReadBack word) events place = event-every None (read_backs word b).channels events place (three-left b word)

    write-every : (port : Option Port) (byte : ℕ) (events : List ℕ) (place : ℕ) → P events 0 (write_to b port byte events place)
    unfolding settle
    write-every (Some (Data n)) byte events place = owing-every events _ (event-every _ _ events place (put_three n _))
    write-every (Some CommandPort) byte events place = owing-every events _ (command-every (command_of b.model byte) events place)
    write-every None byte events place = refuses events 1

    gate-every : (n : ℕ) (level : Bool) (events : List ℕ) (place : ℕ) → P events 0 (set_channel_gate b n level events place)
    unfolding set_channel_gate settle
    gate-every n level events place =
        by-channel (P events 0) b n events _ (refuses events 2) (λ on. owing-every events _ (event-every _ _ events place (put_three n _)))

    read-every : (port : Option Port) → P [] 0 (read_from b port)
    read-every (Some (Data n)) = accepts [] [] _ _ (refl, refl) refl (put_three n _)
    read-every (Some CommandPort) = accepts [] [] _ b.channels (refl, refl) refl (λ three. three)
    read-every None = refuses [] 1

    reset-every : P [] 0 (reset b)
    unfolding reset restored
    reset-every = owing-every [] _ (accepts [] [] done _ (refl, refl) refl (λ three. refl))

    -- what is asked of the call that works ticks off, and of a time call that leaves this warp
    abbrev Works : Type 0
    Works = (events : List ℕ) (w : Work) → Underway b events w → P events 0 (report w)

    abbrev Yields : ℕ → ℕ → Type 0
    Yields given warp =
        (defer : Bool) → b.owed.0 ≡ 0 → b.warp.0 ≤ given
        → P [] (given - b.warp.0) (yielding b warp defer (accepted (converted (summed given b.warp.0 b.remainder.0) b.divisor)))

    work-every : Works → (stated : ℕ) (events : List ℕ) (place : ℕ) → P events 0 (work_off b stated events place)
    unfolding work_off
    work-every works stated events place =
        pick-knowing (P events 0) (ltb (length events) place) (refuse 7 b events) _ (λ past. refuses events 7)
        (λ inside.
        pick-holds (P events 0) (ltb 65536 stated) (refuse 15 b events) _ (refuses events 15)
        (works events _ (worked-on b events stated place (ltb-false _ _ inside))))

    time-every : (given warp : ℕ) (defer : Bool) → Yields given warp
        → P [] (if_accepted (timely b (yielding b warp defer (elapsed b given))).reply (given - b.warp.0)) (timely b (yielding b warp defer (elapsed b given)))
    time-every given warp defer yields =
        by-timely (λ (o : Outcome). P [] (if_accepted o.reply (given - b.warp.0)) o) b (yielding b warp defer (elapsed b given))
        (refuses [] 3)
        (λ owes. refuses [] 16)
        (λ none.
        by-time b given
        (λ (made : Reply Yield). P [] (if_accepted (yielding b warp defer made).reply (given - b.warp.0)) (yielding b warp defer made))
        (λ number. refuses [] number)
        (λ since. yields defer none since))

    -- every operation: of ticks worked off and of time is asked only where it is such a call
    pub every-asked : (o : Operation) → ((kind_of o).works ≡ true → Works) → ((given warp : ℕ) → Leaves o given warp → Yields given warp) → P (lent o) (system_taken b o) (step b o)
    unfolding write_port read_port counts load_cycle catch_up run get_output_state get_channel_count does_channel_retrigger is_dirty
    every-asked (WritePort port byte events place) works yields = write-every (port_of port) byte events place
    every-asked (ReadPort port) works yields = read-every (port_of port)
    every-asked (SetChannelGate n level events place) works yields = gate-every n level events place
    every-asked (Counts n number) works yields = accepted-on n _ _ (refl, refl) (put_three n _)
    every-asked (LoadCycle n) works yields = accepted-on n _ _ (refl, refl) (put_three n _)
    every-asked (CatchUp given) works yields = time-every given given true (yields given given (inl (refl, refl)))
    every-asked (Run given) works yields = time-every given 0 b.defer (yields given 0 (inr (refl, refl)))
    every-asked Reset works yields = reset-every
    every-asked (GetOutputState n) works yields = accepted-on n _ b.channels (refl, refl) (λ three. three)
    every-asked (GetChannelCount n) works yields = accepted-on n _ b.channels (refl, refl) (λ three. three)
    every-asked (DoesChannelRetrigger n) works yields = accepted-on n _ b.channels (refl, refl) (λ three. three)
    every-asked (IsDirty n) works yields = accepted-on n _ _ (refl, refl) (put_three n _)
    every-asked GetTimerAccum works yields = accepts [] [] _ b.channels (refl, refl) refl (λ three. three)
    every-asked (WorkOff stated events place) works yields = work-every (works refl) stated events place

    -- every operation but catch-up, run and the call that works ticks off
    pub every-plain : (o : Operation) → changes_owed o ≡ false → P (lent o) (system_taken b o) (step b o)
    every-plain o other =
        let both = neither (kind_of o).timed (kind_of o).works other in
        every-asked o (λ is. absurd (true≢false (sym is ∙ both.1))) (λ given warp call. absurd (true≢false (sym (leaves-timed o given warp call) ∙ both.0)))

    -- every operation but catch-up and run
    pub every-other : Works → (o : Operation) → is_time_call o ≡ false → P (lent o) (system_taken b o) (step b o)
    every-other works o other = every-asked o (λ is. works) (λ given warp call. absurd (true≢false (sym (leaves-timed o given warp call) ∙ other)))

    pub every-step : Works → ((given warp : ℕ) → Yields given warp) → (o : Operation) → P (lent o) (system_taken b o) (step b o)
    every-step works yields o = every-asked o (λ is. works) (λ given warp call. yields given warp)
