-- Events cannot lie: an accepted port write or gate tells of the change of output level that it made, and where it tells of none it made
-- none. What ticks worked off tell is proved in the crate owed (specs/Told.antt there). That the board has three channels and that what is written is a byte
-- stands as a premise. Assumes nothing.
use Prim.Native.Nat.{ℕ, ◌+◌, ◌<◌, ◌≤◌}
use mathlib.Core.Bool.{Bool, true, false, true≢false, false≢true}
use mathlib.Core.List.{List}
use mathlib.Core.Logic.{inl, inr}
use mathlib.Core.Path.{◌≡◌, refl, sym, ap, subst, ◌∙◌}
use native.Mathlib.Omega.{arith}
use lib.Dec.{ltb, eqb}
use lib.ListN.{length}
use borrow.Author.Tests.{ltb-false, eqb-true, eqb-false}
use Rattle.refusal.specs.Reply.{Reply, refused, accepted}
use Rattle.channel.specs.declared.Channel.{Channel}
use Rattle.channel.specs.declared.Pins.{Pins}
use Rattle.channel.proofs.Pick.{pick-knowing}
use Rattle.control.specs.declared.Command.{Command}
use Rattle.control.specs.declared.Command.TheVariants.{Nothing, LatchCount, SetMode, ReadBack}
use Rattle.control.specs.declared.ReadBackWord.{ReadBackWord}
use Rattle.control.specs.Control.{command_of}
use Rattle.control.proofs.Named.{named-below}
use Rattle.latch.proofs.ReadBacks.{read-back-keeps}
use Rattle.event.specs.declared.Event.{Event}
use Rattle.std.specs.Prelude.{Option, Some, None}
use Rattle.event.specs.Event.{Placing, event_of, level_event, place_event}
use Rattle.event.specs.Written.{Written}
use Rattle.event.proofs.Room.{by-unchanged, by_level}
use Rattle.event.proofs.Written.{event-written}
use Rattle.board.specs.declared.Board.{Board}
use Rattle.board.specs.Board.{channel_at, with_channel}
use Rattle.board.proofs.Channels.{put-found, put_other}
use Rattle.board.specs.Outcome.{Outcome, Value, done, new_place, refuse, unless_owed}
use Rattle.ports.specs.declared.port.Port.{Port}
use Rattle.ports.specs.declared.port.Port.TheVariants.{Data, Command as CommandPort}
use Rattle.ports.specs.Port.{port_of}
use Rattle.ports.proofs.Below.{data-below}
use Rattle.ports.specs.Settle.{call_reply, board_after, placed_on, settle, untouched}
use Rattle.ports.specs.ReadBacks.{read_backs, read_back_write}
use Rattle.ports.proofs.ReadingBacks.{kept-everywhere}
use Rattle.ports.specs.Gates.{set_channel_gate}
use Rattle.ports.specs.Writes.{control_register_write, write_to, write_port}
use Rattle.step.specs.Operation.{WritePort, SetChannelGate}
use Rattle.step.specs.Step.{step}
use Rattle.step.specs.Levels.{level_at}
use Rattle.gate.specs.Gate.{set_gate}
use Rattle.refusal.proofs.Apart.{refused-not}
use Rattle.step.specs.Time.{amounts_in}
use Rattle.step.specs.Events.{NoEvent, OneEvent, Told, ToldBy}
use Rattle.step.proofs.Owing.{by-owed}

abbrev value_in : Reply Value → Value
value_in (refused number) = done
value_in (accepted value) = value

-- the event that sets a level
abbrev level_set : ℕ → Bool → Option Event
level_set n level = Some (record { channel = n; level = level })

-- the event writer's part: the new place, the bytes, and the new board taken
abbrev PlacedAs : Option Event → List ℕ → ℕ → ℕ → Placing → Type 0
PlacedAs None events place new placing = (new ≡ place) × (placing.bytes ≡ events) × ((b c : Board) → board_after placing.reply b c ≡ c)
PlacedAs (Some event) events place new placing =
    (new ≡ place + 2) × Written events placing.bytes place event.channel event.level × ((b c : Board) → board_after placing.reply b c ≡ c)

placed : (events : List ℕ) (place new : ℕ) (event : Option Event) → call_reply (place_event event events place).reply ≡ accepted (new_place new)
    → PlacedAs event events place new (place_event event events place)
placed events place new None =
    by-unchanged events place (λ (p : Placing). call_reply p.reply ≡ accepted (new_place new) → PlacedAs None events place new p)
    (λ past e. absurd (refused-not 7 (new_place new) e))
    (λ inside e. (sym (ap (λ (r : Reply Value). (amounts_in (value_in r)).place) e), refl, λ b c. refl))
placed events place new (Some event) =
    by_level events place (λ (p : Placing). call_reply p.reply ≡ accepted (new_place new) → PlacedAs (Some event) events place new p)
    (λ past e. absurd (refused-not 7 (new_place new) e))
    event.channel event.level
    (λ inside few e. absurd (refused-not 8 (new_place new) e))
    (λ room e. (sym (ap (λ (r : Reply Value). (amounts_in (value_in r)).place) e), event-written event.channel event.level events place room, λ b c. refl))

-- a channel put at a place of the board: its level there, and the levels elsewhere
module _ (b : Board) (three : length b.channels ≡ 3) (n : ℕ) (on : n < 3) (c : Channel) where
  level-there : level_at (with_channel b n c) n ≡ c.pins.output
  level-there = ap (λ (d : Channel). d.pins.output) (put-found b three n on c)

  level-elsewhere : (m : ℕ) → (m ≡ n → ⊥) → level_at (with_channel b n c) m ≡ level_at b m
  level-elsewhere m other = ap (λ (d : Channel). d.pins.output) (put_other b n m c other)

  pub all-stand : c.pins.output ≡ level_at b n → (m : ℕ) → level_at (with_channel b n c) m ≡ level_at b m
  all-stand same m = go (eqb m n) refl
    where
      go : (t : Bool) → eqb m n ≡ t → level_at (with_channel b n c) m ≡ level_at b m
      go true e = subst (λ k. level_at (with_channel b n c) k ≡ level_at b k) (sym (eqb-true m n e)) (level-there ∙ same)
      go false e = level-elsewhere m (eqb-false m n e)

  module _ (events : List ℕ) (place new : ℕ) where
    abbrev after : Option Event → Outcome
    after event = placed_on b (with_channel b n c) (place_event event events place)

    silent : c.pins.output ≡ level_at b n → (after None).reply ≡ accepted (new_place new) → NoEvent b events place (after None) new
    silent same e =
        let p = placed events place new None e in
        record {
          same_place = p.0;
          same-bytes = p.1;
          same-levels = λ m. ap (λ (x : Board). level_at x m) (p.2 b (with_channel b n c)) ∙ all-stand same m;
        }

    told : (level : Bool) → c.pins.output ≡ level → (level_at b n ≡ level → ⊥) → (after (level_set n level)).reply ≡ accepted (new_place new)
        → OneEvent b events place (after (level_set n level)) new
    told level is differs e =
        let p = placed events place new (level_set n level) e in
        let stands : (m : ℕ) → level_at (after (level_set n level)).board m ≡ level_at (with_channel b n c) m = λ m. ap (λ (x : Board). level_at x m) (p.2 b (with_channel b n c)) in
        let now : level_at (after (level_set n level)).board n ≡ level = stands n ∙ level-there ∙ is in
        record {
          channel = n;
          on-board = on;
          next_place = p.0;
          written = subst (λ l. Written events (after (level_set n level)).events place n l) (sym now) p.1;
          changed = λ same. differs (same ∙ now);
          others-stand = λ m other. stands m ∙ level-elsewhere m other;
        }

    by-levels : (was is : Bool) → level_at b n ≡ was → c.pins.output ≡ is → (after (event_of n was is)).reply ≡ accepted (new_place new)
        → Told b events place (after (event_of n was is)) new
    by-levels true true w i e = inl (silent (i ∙ sym w) e)
    by-levels true false w i e = inr (told false i (λ same. true≢false (sym w ∙ same)) e)
    by-levels false true w i e = inr (told true i (λ same. false≢true (sym w ∙ same)) e)
    by-levels false false w i e = inl (silent (i ∙ sym w) e)

    settle-told : (settle b n c events place).reply ≡ accepted (new_place new) → Told b events place (settle b n c events place) new
    unfolding settle
    settle-told e = by-levels (level_at b n) c.pins.output refl refl e

-- a new place is what such a call answers where it is accepted
answers : (r : Reply ℕ) (value : Value) → call_reply r ≡ accepted value → (new : ℕ) × (value ≡ new_place new)
answers (refused number) value e = absurd (refused-not number value e)
answers (accepted new) value e = (new, sym (ap value_in e))

-- a board's three channels, the lent bytes and the place, and what the call says
module _ (b : Board) (three : length b.channels ≡ 3) (events : List ℕ) (place : ℕ) (value : Value) where
  settled-told : (n : ℕ) → n < 3 → (c : Channel) → (settle b n c events place).reply ≡ accepted value
      → ToldBy b events place (settle b n c events place) value
  unfolding settle
  settled-told n on c e =
      let a = answers (place_event (level_event n (channel_at b n) c) events place).reply value e in
      (a.0, a.1, settle-told b three n on c events place a.0 (e ∙ ap accepted a.1))

  untouched-told : (untouched b events place).reply ≡ accepted value → ToldBy b events place (untouched b events place) value
  unfolding untouched
  untouched-told e =
      let a = answers (place_event None events place).reply value e in
      let p = placed events place a.0 None (e ∙ ap accepted a.1) in (
        a.0,
        a.1,
        inl (record { same_place = p.0; same-bytes = p.1; same-levels = λ m. ap (λ (x : Board). level_at x m) (p.2 b b) }),
      )

  read-back-told : (word : ReadBackWord) → (read_back_write b word events place).reply ≡ accepted value
      → ToldBy b events place (read_back_write b word events place) value
  read-back-told word e =
      let a = answers (place_event None events place).reply value e in
      let p = placed events place a.0 None (e ∙ ap accepted a.1) in
      let stands : (m : ℕ) → level_at (read_backs word b) m ≡ level_at b m =
      kept-everywhere b word three (λ (c : Channel). c.pins.output)
      (λ counts status c. ap (λ (q : Pins). q.output) (read-back-keeps counts status c).pins-stay) in (
        a.0,
        a.1,
        inl (record { same_place = p.0; same-bytes = p.1; same-levels = λ m. ap (λ (x : Board). level_at x m) (p.2 b (read_backs word b)) ∙ stands m }),
      )

  owing-told : (outcome : Outcome) → (outcome.reply ≡ accepted value → ToldBy b events place outcome value)
      → (unless_owed b events outcome).reply ≡ accepted value → ToldBy b events place (unless_owed b events outcome) value
  owing-told outcome tells =
      by-owed (λ (o : Outcome). o.reply ≡ accepted value → ToldBy b events place o value) b events outcome
      (λ owes e. absurd (refused-not 16 value e))
      (λ none. tells)

  command-told : (x : ℕ) → x < 256 → (command : Command) → command_of b.model x ≡ command → (control_register_write b command events place).reply ≡ accepted value
      → ToldBy b events place (control_register_write b command events place) value
  command-told x small Nothing is e = untouched-told e
  command-told x small (LatchCount n) is e = settled-told n (named-below b.model x small (LatchCount n) is) _ e
  command-told x small (SetMode n word) is e = settled-told n (named-below b.model x small (SetMode n word) is) _ e
  command-told x small (ReadBack word) is e = read-back-told word e

  port-told : (number x : ℕ) → x < 256 → (port : Option Port) → port_of number ≡ port → (write_to b port x events place).reply ≡ accepted value
      → ToldBy b events place (write_to b port x events place) value
  port-told number x small (Some (Data n)) is e = owing-told _ (settled-told n (data-below number n is) _) e
  port-told number x small (Some CommandPort) is e = owing-told _ (command-told x small (command_of b.model x) refl) e
  port-told number x small None is e = absurd (refused-not 1 value e)

  pub write-told : (port x : ℕ) → x < 256 → (step b (WritePort port x events place)).reply ≡ accepted value
      → ToldBy b events place (step b (WritePort port x events place)) value
  unfolding write_port
  write-told port x small e = port-told port x small (port_of port) refl e

  pub gate-told : (n : ℕ) (level : Bool) → (step b (SetChannelGate n level events place)).reply ≡ accepted value
      → ToldBy b events place (step b (SetChannelGate n level events place)) value
  unfolding set_channel_gate
  gate-told n level =
      pick-knowing (λ (o : Outcome). o.reply ≡ accepted value → ToldBy b events place o value) (ltb 2 n) (refuse 2 b events) _
      (λ above e. absurd (refused-not 2 value e))
      (λ on.
      let h : n ≤ 2 = ltb-false 2 n on in
      owing-told _ (settled-told n (omega arith) (set_gate (channel_at b n) level)))
