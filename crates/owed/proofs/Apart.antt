-- What `work_channels` answers is fixed by the outcome on any board. Assumes nothing.
use Prim.Native.Nat.{ℕ}
use mathlib.Core.List.{List}
use mathlib.Core.Path.{◌≡◌, ap}
use Rattle.std.specs.Prelude.{Result}
use Rattle.refusal.specs.declared.Refusal.{Refusal}
use Rattle.channel.specs.declared.Channel.{Channel}
use Rattle.time.specs.declared.TimerTicks.{TimerTicks}
use Rattle.board.specs.declared.Board.{Board}
use Rattle.board.specs.declared.Answer.{Answer}
use Rattle.board.specs.Outcome.{Outcome}
use Rattle.board.proofs.Apart.{answers-apart}
use Rattle.owed.specs.Ticked.{ticked_on}

pub ticked-apart : (b : Board) (r s : Result Answer Refusal) (channels others : List Channel) (owed left : TimerTicks) (events then : List ℕ)
    → ticked_on b r channels owed events ≡ ticked_on b s others left then
    → (r ≡ s) × (channels ≡ others) × (owed ≡ left) × (events ≡ then)
ticked-apart b r s channels others owed left events then e = (
  answers-apart r s (ap (λ (o : Outcome). o.reply) e),
  ap (λ (o : Outcome). o.board.channels) e,
  ap (λ (o : Outcome). o.board.owed) e,
  ap (λ (o : Outcome). o.events) e,
)
