-- What is put is bytes behind those that stand before the place; and the bytes of one tick more. Assumes nothing.
use Prim.Native.Nat.{ℕ, zero, suc, ◌+◌}
use mathlib.Core.List.{List, ◌++◌, append_assoc, append-nil}
use mathlib.Core.Path.{◌≡◌, refl, sym, ap, ap₂, ◌∙◌}
use lib.ListN.{length, drop, length-append}
use lib.Seq.{take-append_seam, drop-append_seam, drop-drop}
use Rattle.numbers.specs.Times.{times}
use Rattle.event.specs.declared.Event.{Event}
use Rattle.std.specs.Prelude.{Option, Some, None}
use Rattle.event.specs.Event.{event_bytes}
use Rattle.board.specs.declared.Board.{Board}
use Rattle.owed.specs.BoardTick.{board_tick, tick_event}
use Rattle.owed.specs.Worked.{Room, put, size, needed, put_all}
use Rattle.owed.specs.Told.{tick_bytes, all_bytes}

-- the place is where the one list ends and the other begins
abbrev pub between : List ℕ → List ℕ → Room
between written rest = record { bytes = written ++ rest; place = length written }

event-size : (e : Option Event) → length (event_bytes e) ≡ size e
event-size None = refl
event-size (Some event) = refl

put-behind : (e : Option Event) (written rest : List ℕ) → put e (between written rest) ≡ between (written ++ event_bytes e) (drop (size e) rest)
put-behind None written rest = ap (λ (l : List ℕ). between l rest) (sym (append-nil written))
put-behind (Some event) written rest = simp (take-append_seam, drop-append_seam, append_assoc, length-append)

pub tick-size : (b : Board) → length (tick_bytes b) ≡ needed b
tick-size b = simp (length-append, event-size)

pub all-behind : (b : Board) (written rest : List ℕ) → put_all b (between written rest) ≡ between (written ++ tick_bytes b) (drop (length (tick_bytes b)) rest)
all-behind b written rest =
    let e₀ = tick_event b 0 in
    let e₁ = tick_event b 1 in
    let e₂ = tick_event b 2 in
    let written₁ = written ++ event_bytes e₀ in
    let written₂ = written₁ ++ event_bytes e₁ in
    let bytes : written₂ ++ event_bytes e₂ ≡ written ++ tick_bytes b = simp append_assoc in
    let left : drop (size e₂) (drop (size e₁) (drop (size e₀) rest)) ≡ drop (length (tick_bytes b)) rest =
    ap (drop (size e₂)) (drop-drop (size e₁) (size e₀) rest) ∙ drop-drop (size e₂) (size e₀ + size e₁) rest ∙ ap (λ k. drop k rest) (sym (tick-size b)) in
    ap (λ (r : Room). put e₂ (put e₁ r)) (put-behind e₀ written rest)
    ∙ ap (put e₂) (put-behind e₁ written₁ (drop (size e₀) rest))
    ∙ put-behind e₂ written₂ (drop (size e₁) (drop (size e₀) rest))
    ∙ ap₂ between bytes left

times-first : {A : Type 0} (k : ℕ) (f : A → A) (x : A) → times k f (f x) ≡ f (times k f x)
times-first zero f x = refl
times-first (suc k) f x = ap f (times-first k f x)

pub one-tick-more : (k : ℕ) (b : Board) → all_bytes (suc k) b ≡ all_bytes k b ++ tick_bytes (times k board_tick b)
one-tick-more zero b = append-nil (tick_bytes b)
one-tick-more (suc k) b =
    ap (λ (l : List ℕ). tick_bytes b ++ l) (one-tick-more k (board_tick b) ∙ ap (λ (d : Board). all_bytes k (board_tick b) ++ tick_bytes d) (times-first k board_tick b))
    ∙ sym (append_assoc (tick_bytes b) (all_bytes k (board_tick b)) (tick_bytes (times (suc k) board_tick b)))
