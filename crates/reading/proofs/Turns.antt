-- The turns of a reading that are its own, on the board: a command of the channel, and the two reads. Assumes nothing.
use Prim.Native.Nat.{ℕ, ◌<◌}
use mathlib.Core.Bool.{true}
use mathlib.Core.List.{List}
use mathlib.Core.Path.{◌≡◌, refl, sym, ap, ◌∙◌}
use lib.ListN.{length}
use Rattle.refusal.specs.Reply.{accepted}
use Rattle.channel.specs.declared.Channel.{Channel}
use Rattle.control.specs.declared.Command.{Command}
use Rattle.control.specs.declared.Command.TheVariants.{ReadBack}
use Rattle.control.specs.declared.ReadBackWord.{ReadBackWord}
use Rattle.control.specs.Control.{names, command_of}
use Rattle.latch.specs.ReadBack.{read_back}
use Rattle.latch.specs.Reading.{read_byte}
use Rattle.latch.specs.Label.{label_of}
use Rattle.board.specs.declared.Board.{Board}
use Rattle.board.specs.Board.{channel_at}
use Rattle.board.proofs.Channels.{put-found}
use Rattle.board.specs.Outcome.{Outcome, Value}
use Rattle.ports.specs.Port.{port_of}
use Rattle.ports.proofs.Below.{data-port}
use Rattle.ports.specs.Settle.{settle}
use Rattle.ports.specs.ReadBacks.{read_back_at, read_back_write}
use Rattle.ports.proofs.Settling.{settle-taken}
use Rattle.ports.proofs.ReadingBacks.{each_read, read-backs-taken}
use Rattle.ports.specs.Reads.{data_read, read_from, read_port}
use Rattle.ports.specs.Writes.{control_register_write, write_port}
use Rattle.step.specs.Step.{step}
use Rattle.step.specs.Accepted.{IsAccepted}
use Rattle.step.proofs.Owing.{not-owed}
use Rattle.reading.specs.Reading.{read_of, control_write}
use Rattle.reading.specs.Spelling.{Says}

pub read-turn : (b : Board) (i : ℕ) → i < 3 → step b (read_of i) ≡ data_read b i
unfolding read_port
read-turn b i on = ap (read_from b) (data-port i on)

-- the byte is the record's own, and so is what is said of it
pub read-reply : (b : Board) (i : ℕ) → i < 3 → Says (read_byte (channel_at b i)).byte (label_of (channel_at b i)) (step b (read_of i)).reply
read-reply b i on = ap (λ (o : Outcome). o.reply) (read-turn b i on)

module _ (b : Board) (three : length b.channels ≡ 3) (i : ℕ) (on : i < 3) where
  -- and so is what is left in its place
  pub read-leaves : channel_at (step b (read_of i)).board i ≡ (read_byte (channel_at b i)).channel
  read-leaves = ap (λ (o : Outcome). channel_at o.board i) (read-turn b i on) ∙ put-found b three i on _

  -- an accepted call that leaves a record at the channel's place
  settled-found : (c : Channel) (events : List ℕ) (place : ℕ) (value : Value) → (settle b i c events place).reply ≡ accepted value
      → channel_at (settle b i c events place).board i ≡ c
  settled-found c events place value took =
      ap (λ (d : Board). channel_at d i) (settle-taken b events place i c value took) ∙ put-found b three i on c

  -- a control byte that is a read-back which names the channel
  pub read-back-turn : (x : ℕ) (events : List ℕ) (place : ℕ) (word : ReadBackWord) → command_of b.model x ≡ ReadBack word → names word i ≡ true
      → IsAccepted b (control_write x events place)
      → channel_at (step b (control_write x events place)).board i ≡ read_back word.counts word.status (channel_at b i)
  unfolding write_port port_of read_back_at
  read-back-turn x events place word is named took =
      let e : step b (control_write x events place) ≡ read_back_write b word events place =
      not-owed b events (control_register_write b (command_of b.model x) events place) took.0 took.1 ∙ rw is refl in
      let left = read-backs-taken b events place word took.0 (sym (ap (λ (o : Outcome). o.reply) e) ∙ took.1) in
      ap (λ (o : Outcome). channel_at o.board i) e ∙ ap (λ (d : Board). channel_at d i) left ∙ each_read b word three i on ∙ rw named refl

  -- a control byte that is a command, where that command leaves a record
  pub command-turn : (x : ℕ) (events : List ℕ) (place : ℕ) (command : Command) (c : Channel) → command_of b.model x ≡ command
      → control_register_write b command events place ≡ settle b i c events place
      → IsAccepted b (control_write x events place)
      → channel_at (step b (control_write x events place)).board i ≡ c
  unfolding write_port port_of
  command-turn x events place command c is leaves took =
      let e : step b (control_write x events place) ≡ settle b i c events place =
      not-owed b events (control_register_write b (command_of b.model x) events place) took.0 took.1 ∙ rw is leaves in
      ap (λ (o : Outcome). channel_at o.board i) e
      ∙ settled-found c events place took.0 (sym (ap (λ (o : Outcome). o.reply) e) ∙ took.1)
