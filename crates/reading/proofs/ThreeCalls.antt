-- Latch and two reads of a channel, as calls of the board and on its record: where a reading may begin, the bytes make up the counting element, and the next may begin
-- from it. Assumes nothing.
use Prim.Native.Nat.{ℕ, ◌<◌}
use mathlib.Core.Bool.{Bool, true}
use mathlib.Core.List.{[]}
use mathlib.Core.Path.{◌≡◌, ap, ◌∙◌}
use native.Mathlib.Omega.{arith}
use lib.ListN.{length}
use Rattle.channel.specs.declared.Channel.{Channel}
use Rattle.channel.specs.declared.ReadState.TheVariants.{NoRead}
use Rattle.control.specs.declared.Command.{Command}
use Rattle.control.proofs.Named.{latch-byte}
use Rattle.latch.specs.Latching.{latch_count}
use Rattle.latch.specs.Reading.{read_byte}
use Rattle.event.specs.Event.{place_event}
use Rattle.event.proofs.Room.{standing-level}
use Rattle.board.specs.declared.Board.{Board}
use Rattle.board.specs.Board.{channel_at, with_channel}
use Rattle.board.proofs.Channels.{put-found, put-again}
use Rattle.board.specs.Outcome.{Outcome, new_place}
use Rattle.refusal.specs.Reply.{accepted}
use Rattle.ports.specs.Port.{port_of}
use Rattle.ports.specs.Settle.{settle}
use Rattle.ports.specs.Writes.{control_register_write, write_port}
use Rattle.step.specs.Step.{step}
use Rattle.step.specs.Accepted.{IsAccepted}
use Rattle.step.proofs.Three.{step-three}
use Rattle.reading.specs.Reading.{read_of, latch, three_calls, latched, at_end}
use Rattle.reading.specs.Word.{read_word}
use Rattle.reading.specs.Beginning.{may_begin}
use Rattle.reading.proofs.Holds.{Holds, latch-holds, first_byte, first_holds, second-byte, second-may}
use Rattle.reading.proofs.Stands.{Stands, latch-stands, read-stands}
use Rattle.reading.proofs.Turns.{read-turn}
use Rattle.reading.proofs.Latched.{Latched}

module _ (c : Channel) (may : may_begin c ≡ true) where
  held : Holds c.counter.counting_element NoRead (latch_count c)
  held = latch-holds c may

  -- the two bytes make up the counting element
  pub word-is-element : (read_word c).word ≡ c.counter.counting_element
  unfolding read_word
  word-is-element =
      rw (first_byte (latch_count c) _ held, second-byte (read_byte (latch_count c)).channel _ (first_holds (latch_count c) _ held)) (omega arith)

  pub word_may : may_begin (read_word c).channel ≡ true
  unfolding read_word
  word_may = second-may (read_byte (latch_count c)).channel _ (first_holds (latch_count c) _ held)

pub word_stands : (c : Channel) {bcd : Bool} {e : ℕ} → Stands bcd e c → Stands bcd e (read_word c).channel
unfolding read_word
word_stands c s = read-stands (read_byte (latch_count c)).channel (read-stands (latch_count c) (latch-stands s))

-- a latch of the channel's own, as the board's call
abbrev latched_on : Board → ℕ → Outcome
latched_on b n = record { reply = accepted (new_place 0); board = with_channel b n (latch_count (channel_at b n)); events = [] }

latch-settled : (b : Board) (n : ℕ) → settle b n (latch_count (channel_at b n)) [] 0 ≡ latched_on b n
unfolding settle place_event latch_count
latch-settled b n = simp (standing-level n (channel_at b n).pins.output)

module _ (b : Board) (none : b.owed.0 ≡ 0) (n : ℕ) (on : n < 3) where
  latch-outcome : step b (latch (three_calls n)) ≡ latched_on b n
  unfolding write_port port_of
  latch-outcome =
      simp none (ap (λ (command : Command). control_register_write b command [] 0) (latch-byte b.model n on) ∙ latch-settled b n)

  pub latch-taken : IsAccepted b (latch (three_calls n))
  latch-taken = (new_place 0, ap (λ (o : Outcome). o.reply) latch-outcome)

  latch-put : latched b n (three_calls n) ≡ with_channel b n (latch_count (channel_at b n))
  latch-put = ap (λ (o : Outcome). o.board) latch-outcome

  module _ (three : length b.channels ≡ 3) where
    -- a read of a board that has just been given a record
    read-put : (c : Channel) → (step (with_channel b n c) (read_of n)).board ≡ with_channel b n (read_byte c).channel
    read-put c =
        ap (λ (o : Outcome). o.board) (read-turn (with_channel b n c) n on)
        ∙ ap (λ (d : Channel). with_channel (with_channel b n c) n (read_byte d).channel) (put-found b three n on c)
        ∙ put-again b n c (read_byte c).channel

    pub three-calls : at_end b n (three_calls n) ≡ with_channel b n (read_word (channel_at b n)).channel
    unfolding read_word
    three-calls =
        ap (λ (d : Board). (step (step d (read_of n)).board (read_of n)).board) latch-put
        ∙ ap (λ (d : Board). (step d (read_of n)).board) (read-put (latch_count (channel_at b n)))
        ∙ read-put (read_byte (latch_count (channel_at b n))).channel

    -- the word that the latch holds is the counting element, whatever its digits
    pub three-hold : may_begin (channel_at b n) ≡ true → Latched b n (three_calls n) (channel_at b n).counter.counting_element
    three-hold may =
        let record-now : channel_at (latched b n (three_calls n)) n ≡ latch_count (channel_at b n) =
        ap (λ (d : Board). channel_at d n) latch-put ∙ put-found b three n on (latch_count (channel_at b n)) in
        record {
          on-board = on;
          three-channels = step-three b three (latch (three_calls n));
          holds = rw record-now (latch-holds (channel_at b n) may);
          after-may = tt;
          between-may = tt;
        }
