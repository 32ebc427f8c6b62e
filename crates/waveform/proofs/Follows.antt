-- The board follows the sheets' counter over every list of calls. Assumes nothing.
use Prim.Native.Nat.{ℕ, zero, suc, ◌<◌}
use mathlib.Core.Bool.{Bool, true, false}
use mathlib.Core.List.{List, [], ◌∷◌}
use mathlib.Core.Logic.{⊎_elim}
use mathlib.Core.Path.{◌≡◌, refl, sym, ◌∙◌, subst}
use native.Mathlib.Omega.{arith}
use lib.ListN.{length}
use Rattle.refusal.specs.Reply.{Reply}
use Rattle.channel.specs.declared.Channel.{Channel}
use Rattle.channel.specs.declared.PitType.{PitType}
use Rattle.channel.specs.Fresh as channel
use Rattle.board.specs.declared.Board.{Board}
use Rattle.board.specs.Board.{channel_at}
use Rattle.board.specs.Making.{fresh}
use Rattle.board.specs.Outcome.{Value}
use Rattle.step.specs.Operation.{Operation}
use Rattle.step.specs.Accepted.{unless_refused}
use Rattle.step.specs.Step.{step, steps}
use Rattle.step.proofs.Accepted.{by-reply}
use Rattle.step.proofs.Kept.{settings-kept}
use Rattle.step.proofs.Leaves.{refused-leaves}
use Rattle.step.proofs.Three.{fresh-three, step-three}
use Rattle.sheet.specs.Counter.{left_open, fixed_at}
use Rattle.agreement.specs.Watching.{Watch, unprogrammed, ShowsIn}
use Rattle.agreement.proofs.Tracking.{core_of, Tracks, not_yet, tracked}
use Rattle.waveform.specs.Heard.{heard_of, hears, watch_over, IsByte, OnlyBytes}
use Rattle.waveform.specs.Follows.{AnyBoard, NewBoard, Follows}
use Rattle.waveform.proofs.Defers.{defer-told}
use Rattle.waveform.proofs.Turns.{turn}

-- one call, accepted or refused
call-tracks : (b : Board) → length b.channels ≡ 3 → (i : ℕ) → i < 3 → (w : Watch) → Tracks b.model w (core_of (channel_at b i)) → (o : Operation) → IsByte o
    → Tracks b.model (hears i b b.defer o w) (core_of (channel_at (step b o).board i))
call-tracks b three i on w now o small =
    by-reply b o (λ (reply : Reply Value). Tracks b.model (unless_refused reply w (heard_of i b b.defer o w)) (core_of (channel_at (step b o).board i)))
    (λ number e. subst (λ (d : Board). Tracks b.model w (core_of (channel_at d i))) (sym (refused-leaves b o number e).0) now)
    (λ value e. turn b three i on w now o small value e)

calls-track : (b : Board) → length b.channels ≡ 3 → (i : ℕ) → i < 3 → (w : Watch) → Tracks b.model w (core_of (channel_at b i))
    → (os : List Operation) → OnlyBytes os → Tracks b.model (watch_over i b os b.defer w) (core_of (channel_at (steps b os) i))
calls-track b three i on w now [] small = now
calls-track b three i on w now (o ∷ os) small =
    let same : (step b o).board.model ≡ b.model = (settings-kept b o).0 in
    let heard-one = hears i b b.defer o w in
    subst (λ (d : Bool). Tracks b.model (watch_over i (step b o).board os d heard-one) (core_of (channel_at (steps (step b o).board os) i))) (defer-told b o)
    (subst (λ (m : PitType). Tracks m (watch_over i (step b o).board os (step b o).board.defer heard-one) (core_of (channel_at (steps (step b o).board os) i))) same
    (calls-track (step b o).board (step-three b three o) i on heard-one
    (subst (λ (m : PitType). Tracks m heard-one (core_of (channel_at (step b o).board i))) (sym same) (call-tracks b three i on w now o small.0))
    os
    small.1))

-- what is in step shows what the counter says
shows : (model : PitType) (w : Watch) (c : Channel) → Tracks model w (core_of c) → ShowsIn w c
shows model w c (not_yet one is rule) = subst (λ (x : Watch). ShowsIn x c) (sym is) tt
shows model w c (tracked p o v late one is h) =
    subst (λ (x : Watch). ShowsIn x c) (sym is) (record { shows-output = h.output-is; shows-value = h.value-is })

fresh-at : (model : PitType) (divisor i : ℕ) → i < 3 → channel_at (fresh model divisor) i ≡ channel.fresh
unfolding fresh
fresh-at model divisor zero on = refl
fresh-at model divisor (suc zero) on = refl
fresh-at model divisor (suc (suc zero)) on = refl
fresh-at model divisor (suc (suc (suc i))) on = absurd (omega arith)

fresh-tracks : (model : PitType) → Tracks model (unprogrammed true (fixed_at false)) (core_of channel.fresh)
unfolding channel.fresh_at
fresh-tracks model = not_yet (fixed_at false) refl refl

-- what is known before the calls is so
record Begun (b : Board) (i : ℕ) (defers : Bool) (w : Watch) : Type 0 where
  three : length b.channels ≡ 3
  told : defers ≡ b.defer
  tracks : Tracks b.model w (core_of (channel_at b i))

begun-any : (b : Board) (i : ℕ) (defers : Bool) (w : Watch) → AnyBoard b i defers w → Begun b i defers w
begun-any b i defers w start = record { three = start.0; told = start.1.0; tracks = not_yet left_open start.1.1 tt }

fresh-defer : (model : PitType) (divisor : ℕ) → (fresh model divisor).defer ≡ false
unfolding fresh
fresh-defer model divisor = refl

begun-new : (b : Board) (i : ℕ) (defers : Bool) (w : Watch) → i < 3 → NewBoard b defers w → Begun b i defers w
begun-new b i defers w on start =
    subst (λ (d : Board). Begun d i defers w) (sym start.1.1.0)
    (subst (Begun (fresh start.0 start.1.0) i defers) (sym start.1.1.1.1)
    (record {
      three = fresh-three start.0 start.1.0;
      told = start.1.1.1.0 ∙ sym (fresh-defer start.0 start.1.0);
      tracks =
          subst (λ (c : Channel). Tracks (fresh start.0 start.1.0).model (unprogrammed true (fixed_at false)) (core_of c))
          (sym (fresh-at start.0 start.1.0 i on))
          (fresh-tracks (fresh start.0 start.1.0).model);
    }))

pub follows : Follows
follows b i defers w start on os small =
    let h = ⊎_elim (begun-any b i defers w) (begun-new b i defers w on) start in
    shows b.model (watch_over i b os defers w) (channel_at (steps b os) i)
    (subst (λ (d : Bool). Tracks b.model (watch_over i b os d w) (core_of (channel_at (steps b os) i))) (sym h.told)
    (calls-track b h.three i on w h.tracks os small))
