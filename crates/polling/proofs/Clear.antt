-- The null count over any calls (specs/NullClear.antt). Assumes nothing.
use Prim.Native.Nat.{ℕ, zero, suc, ◌/◌, ◌%◌, ◌<◌}
use mathlib.Core.Bool.{Bool, true, false, true≢false}
use mathlib.Core.List.{List, [], ◌∷◌}
use mathlib.Core.Logic.{◌⊎◌, inl, inr, ⊎_elim}
use mathlib.Core.Path.{◌≡◌, refl, sym, ap, subst, ◌∙◌}
use native.Mathlib.Omega.{arith}
use lib.ListN.{length}
use Rattle.sheet.specs.Counter.{Fixed, left_open, fixed_at}
use Rattle.sheet.specs.NullCount.{Happening, programmed, written, loaded, null_count, last_written}
use Rattle.channel.specs.declared.Channel.{Channel}
use Rattle.channel.specs.declared.PitType.{PitType}
use Rattle.channel.specs.Fresh as channel
use Rattle.latch.specs.Status.{status_byte}
use Rattle.latch.specs.ReadBack.{read_back}
use Rattle.latch.specs.Reading.{read_byte}
use Rattle.latch.proofs.StatusByte.{null-shown}
use Rattle.latch.proofs.ReadBacks.{status-next}
use Rattle.board.specs.declared.Board.{Board}
use Rattle.board.specs.declared.PortRead.{PortRead}
use Rattle.board.specs.Board.{channel_at}
use Rattle.board.specs.Making.{fresh}
use Rattle.step.specs.Operation.{Operation}
use Rattle.step.specs.Step.{step, steps}
use Rattle.step.proofs.Three.{fresh-three, steps-three}
use Rattle.reading.specs.Reading.{control_write}
use Rattle.reading.proofs.Spelling.{same_read}
use Rattle.reading.proofs.Turns.{read-reply, read-back-turn}
use Rattle.polling.specs.Happened.{happened}
use Rattle.polling.specs.NullClear.{NewBoard, MarkSet, Starts, NullIsTheSheets, LoadedLast, NullClear, FirmwarePolls}
use Rattle.polling.proofs.Knows.{LoadsAs, IsLoaded, Knows, knows-written}
use Rattle.polling.proofs.Channels.{fresh-knows}
use Rattle.polling.proofs.Turns.{calls-know}

record Begun (b : Board) (i : ℕ) (earlier : List Happening) : Type 0 where
  three : length b.channels ≡ 3
  knows : Knows earlier (channel_at b i)

fresh-at : (model : PitType) (divisor i : ℕ) → i < 3 → channel_at (fresh model divisor) i ≡ channel.fresh
unfolding fresh
fresh-at model divisor zero on = refl
fresh-at model divisor (suc zero) on = refl
fresh-at model divisor (suc (suc zero)) on = refl
fresh-at model divisor (suc (suc (suc i))) on = absurd (omega arith)

begun-new : (b : Board) (i : ℕ) (earlier : List Happening) → i < 3 → NewBoard b earlier → Begun b i earlier
begun-new b i earlier on start =
    subst (λ (d : Board). Begun d i earlier) (sym start.1.1.0)
    (subst (Begun (fresh start.0 start.1.0) i) (sym start.1.1.1)
    (record {
      three = fresh-three start.0 start.1.0;
      knows = subst (Knows []) (sym (fresh-at start.0 start.1.0 i on)) (fresh-knows true);
    }))

begun-set : (b : Board) (i : ℕ) (earlier : List Happening) → MarkSet b i earlier → Begun b i earlier
begun-set b i earlier start =
    subst (Begun b i) (sym start.last)
    (record { three = start.three-channels; knows = knows-written [] (channel_at b i).load.reload_value (channel_at b i) start.mark refl })

begins : (b : Board) (i : ℕ) (earlier : List Happening) → Starts b i earlier → i < 3 → Begun b i earlier
begins b i earlier start on = ⊎_elim (begun-new b i earlier on) (begun-set b i earlier) start

known : (b : Board) (i : ℕ) (earlier : List Happening) → Starts b i earlier → i < 3 → (os : List Operation) → Knows (happened i b os earlier) (channel_at (steps b os) i)
known b i earlier start on os =
    let begun = begins b i earlier start on in
    calls-know b begun.three i on earlier begun.knows os

pub null-is-the-sheets : NullIsTheSheets
null-is-the-sheets b i earlier start on os = (known b i earlier start on os).null_is

-- where the mark is clear the latest is a load
loads-in : (c : Channel) (value : ℕ) (earlier : List Happening) (f : Fixed ℕ) → last_written earlier ≡ f → LoadsAs value f c → LoadedLast c (loaded value ∷ earlier)
loads-in c value earlier left_open is h = absurd h
loads-in c value earlier (fixed_at count) is h =
    record { value = value; count = count; earlier = earlier; latest = refl; last-written = is; loads-as = h }

clear_in : (c : Channel) (all : List Happening) → IsLoaded all c → null_count all ≡ false → (all ≡ []) ⊎ LoadedLast c all
clear_in c [] h e = inl refl
clear_in c (programmed ∷ earlier) h e = absurd (true≢false e)
clear_in c (written count ∷ earlier) h e = absurd (true≢false e)
clear_in c (loaded value ∷ earlier) h e = inr (loads-in c value earlier (last_written earlier) refl h)

pub null-clear : NullClear
null-clear b i earlier start on os clear =
    let k = known b i earlier start on os in
    clear_in (channel_at (steps b os) i) (happened i b os earlier) k.loaded-is (sym k.null_is ∙ clear)

-- the byte that firmware reads is the status of the moment of the read-back
pub firmware-polls : FirmwarePolls
firmware-polls b i earlier start on os control events place word x label p =
    let asked = steps b os in
    let c = channel_at asked i in
    let three : length asked.channels ≡ 3 = steps-three b (begins b i earlier start on).three os in
    let after = read-back-turn asked three i on control events place word p.is-read-back p.named p.taken in
    let given = same_read _ _ (sym (read-reply (step asked (control_write control events place)).board i on) ∙ p.read) in
    let next : (read_byte (read_back word.counts word.status c)).byte ≡ x = sym (ap (λ (d : Channel). (read_byte d).byte) after) ∙ ap (λ (r : PortRead). r.byte) given in
    let is : status_byte c ≡ x = sym (status-next word.counts c p.none-held) ∙ ap (λ (s : Bool). (read_byte (read_back word.counts s c)).byte) (sym p.asks-status) ∙ next in
    null-clear b i earlier start on os (null-shown c (ap (λ (y : ℕ). y / 64 % 2) is ∙ p.clear))
