-- The loop that works ticks off: how far it has come, and how it goes on and ends. Assumes nothing.
use Prim.Native.Nat.{ℕ, suc, ◌+◌, ◌-◌, ◌<◌, ◌≤◌}
use mathlib.Core.Bool.{true, false}
use mathlib.Core.List.{List, [], ◌∷◌}
use mathlib.Core.Path.{◌≡◌, refl, sym, ap, ap₂, ◌∙◌}
use native.Mathlib.Omega.{arith}
use lib.ListN.{length, get_or, set}
use borrow.Author.Tests.{lt-ltb, le-ltb, eq-eqb, ne_eqb}
use Rattle.channel.specs.declared.Channel.{Channel}
use Rattle.channel.specs.declared.PitType.{PitType}
use Rattle.channel.specs.Blank.{blank}
use Rattle.quiet.specs.Inner.{skip}
use Rattle.std.specs.Prelude.{Option}
use Rattle.event.specs.declared.Event.{Event}
use Rattle.board.specs.declared.Board.{Board}
use Rattle.board.specs.Board.{owing}
use Rattle.owed.specs.BoardTick.{board_tick}
use Rattle.owed.specs.Worked.{Room, put, put_all, size, needed, Work, stops, work_up_to, begun, report, work_off}
use Rattle.owed.specs.Ticked.{Has}
use Rattle.owed.specs.Inner.{Skips}
use Rattle.owed.proofs.Puts.{puts-fit}
use Rattle.owed.proofs.Runs.{skips-at-once}
use Rattle.owed.proofs.Turns.{Ticks, tick-board, tick-needs, tick-room}

-- refusals 7 and 15 not given
pub accepted-is : (b : Board) (stated : ℕ) (events : List ℕ) (place : ℕ) → place ≤ length events → stated ≤ 65536
    → work_off b stated events place ≡ report (work_up_to stated (begun b events place))
unfolding work_off
accepted-is b stated events place inside few = simp (le-ltb _ _ inside, le-ltb _ _ few)

-- a board's parts put back leave it as it is
pub put_back : {b : Board} {channels : List Channel} {model : PitType} {owed : ℕ} → Has b channels model owed → owing b owed channels ≡ b
put_back {b} has = ap₂ (owing b) (sym has.owed-is) (sym has.channels-are)

-- the work on a board, so far
abbrev pub work : ℕ → Board → List ℕ → ℕ → Work
work made board bytes at = record { made = made; board = board; room = record { bytes = bytes; place = at } }

-- what is made already, and that the rest leads to the same end on any board with the parts that the loop began with
pub record Working (channels : List Channel) (model : PitType) (owed stated : ℕ) (events : List ℕ) (place made left : ℕ) (now : List Channel) (bytes : List ℕ) (at : ℕ) : Type 0 where
  pub three : length now ≡ 3
  pub few : made ≤ stated
  pub same_length : length bytes ≡ length events
  pub inside : at ≤ length bytes
  pub same_end : (b : Board) → Has b channels model owed
      → work_up_to (stated - made) (work made (owing b left now) bytes at) ≡ work_up_to stated (begun b events place)

pub begins : (channels : List Channel) (model : PitType) (owed stated : ℕ) (events : List ℕ) (place : ℕ) → length channels ≡ 3 → place ≤ length events
    → Working channels model owed stated events place 0 owed channels events place
begins channels model owed stated events place three inside =
    let all : stated - 0 ≡ stated = omega arith in
    record {
      three = three;
      few = omega arith;
      same_length = refl;
      inside = inside;
      same_end = λ b has. ap₂ (λ n (d : Board). work_up_to n (begun d events place)) all (put_back has);
    }

module _ {channels : List Channel} {model : PitType} {owed stated : ℕ} {events : List ℕ} {place made left : ℕ} {now : List Channel} {bytes : List ℕ} {at : ℕ} (w : Working channels model owed stated events place made left now bytes at) where
  -- the work so far
  abbrev here : Board → Work
  here b = work made (owing b left now) bytes at

  -- to end here is right
  abbrev Ends : Type 0
  Ends = (b : Board) → Has b channels model owed → report (here b) ≡ report (work_up_to stated (begun b events place))

  -- the stated number is made
  pub all-made : stated ≤ made → Ends
  all-made h b has =
      let none : stated - made ≡ 0 = omega arith in
      ap report (ap (λ n. work_up_to n (here b)) (sym none) ∙ w.same_end b has)

  stopped : made < stated → ((b : Board) → Has b channels model owed → stops (here b) ≡ true) → Ends
  stopped h stop b has =
      let one : stated - made ≡ suc (stated - (made + 1)) = omega arith in
      ap report (sym (rw one (simp (stop b has))) ∙ w.same_end b has)

  pub none-owed : made < stated → left ≡ 0 → Ends
  none-owed h none = stopped h (λ b has. simp (eq-eqb _ _ none))

  -- the three channels, wherever they are taken from
  module _ {d₀ d₁ d₂ : Channel} (are : now ≡ d₀ ∷ d₁ ∷ d₂ ∷ []) where
    same-here : (b : Board) → owing b left now ≡ owing b left (d₀ ∷ d₁ ∷ d₂ ∷ [])
    same-here b = ap (owing b left) are

    -- a run of quiet ticks
    pub goes-many : (run : ℕ) → run ≤ stated - made → run ≤ left → Skips run d₀ → Skips run d₁ → Skips run d₂
        → (next : List Channel) → next ≡ skip run d₀ ∷ skip run d₁ ∷ skip run d₂ ∷ []
        → Working channels model owed stated events place (made + run) (left - run) next bytes at
    goes-many run few owes s₀ s₁ s₂ next is =
        let rest : stated - made - run ≡ stated - (made + run) = omega arith in
        record {
          three = ap (λ (cs : List Channel). length cs) is;
          few = omega (arith, w.few, few);
          same_length = w.same_length;
          inside = w.inside;
          same_end = λ b has.
              ap₂ (λ n (cs : List Channel). work_up_to n (work (made + run) (owing b (left - run) cs) bytes at)) (sym rest) is
              ∙ sym (skips-at-once run d₀ d₁ d₂ s₀ s₁ s₂ b left (stated - made) made (record { bytes = bytes; place = at }) few owes)
              ∙ ap (λ (d : Board). work_up_to (stated - made) (work made d bytes at)) (sym (same-here b))
              ∙ w.same_end b has;
        }

    -- a single tick, with its events
    module _ {t₀ t₁ t₂ : Channel} {e₀ e₁ e₂ : Option Event} (h : made < stated) (owes : left ≡ 0 → ⊥) (f₀ : Ticks model 0 d₀ t₀ e₀) (f₁ : Ticks model 1 d₁ t₁ e₁) (f₂ : Ticks model 2 d₂ t₂ e₂) where
      needs : (b : Board) → Has b channels model owed → size e₀ + size e₁ + size e₂ ≡ needed (here b).board
      needs b has = tick-needs f₀ f₁ f₂ b left has.model_is ∙ ap needed (sym (same-here b))

      pub too-full : length bytes - at < size e₀ + size e₁ + size e₂ → Ends
      too-full short =
          stopped h
          (λ b has.
          let tight : length bytes - at < needed (here b).board = omega (arith, short, needs b has) in
          simp (ne_eqb _ _ owes, lt-ltb _ _ tight))

      pub goes_one : size e₀ + size e₁ + size e₂ ≤ length bytes - at → (bytes₁ : List ℕ) (at₁ : ℕ)
          → record { bytes = bytes₁; place = at₁ } ≡ put e₂ (put e₁ (put e₀ (record { bytes = bytes; place = at })))
          → Working channels model owed stated events place (made + 1) (left - 1) (t₀ ∷ t₁ ∷ t₂ ∷ []) bytes₁ at₁
      goes_one enough bytes₁ at₁ after =
          let room : Room = record { bytes = bytes; place = at } in
          let said = puts-fit e₀ e₁ e₂ room (omega (arith, w.inside, enough)) in
          let last : length bytes₁ ≡ length bytes = ap (λ (r : Room). length r.bytes) after ∙ said.0 in
          let to : at₁ ≡ at + (size e₀ + size e₁ + size e₂) = ap (λ (r : Room). r.place) after ∙ said.1 in
          let one : stated - made ≡ suc (stated - (made + 1)) = omega arith in
          record {
            three = refl;
            few = omega arith;
            same_length = last ∙ w.same_length;
            inside = omega (arith, last, to, enough, w.inside);
            same_end = λ b has.
                let fits : needed (here b).board ≤ length bytes - at = omega (arith, enough, needs b has) in
                let goes : stops (here b) ≡ false = simp (ne_eqb _ _ owes, le-ltb _ _ fits) in
                ap₂ (λ (d : Board) (r : Room). work_up_to (stated - (made + 1)) (record { made = made + 1; board = d; room = r }))
                (sym (tick-board f₀ f₁ f₂ b left has.model_is) ∙ ap board_tick (sym (same-here b)))
                (after ∙ tick-room f₀ f₁ f₂ b left has.model_is room ∙ ap (λ (d : Board). put_all d room) (sym (same-here b)))
                ∙ sym (rw one (simp goes))
                ∙ w.same_end b has;
          }

-- three records, each skipped where it stands
pub all-skipped : (run : ℕ) (cs : List Channel) → length cs ≡ 3 → (s₀ s₁ s₂ : Channel) → s₀ ≡ skip run (get_or cs 0 blank) → s₁ ≡ skip run (get_or (set cs 0 s₀) 1 blank)
    → s₂ ≡ skip run (get_or (set (set cs 0 s₀) 1 s₁) 2 blank)
    → set (set (set cs 0 s₀) 1 s₁) 2 s₂ ≡ skip run (get_or cs 0 blank) ∷ skip run (get_or cs 1 blank) ∷ skip run (get_or cs 2 blank) ∷ []
all-skipped run [] three s₀ s₁ s₂ e₀ e₁ e₂ = absurd (omega arith)
all-skipped run (x ∷ []) three s₀ s₁ s₂ e₀ e₁ e₂ = absurd (omega arith)
all-skipped run (x ∷ y ∷ []) three s₀ s₁ s₂ e₀ e₁ e₂ = absurd (omega arith)
all-skipped run (x ∷ y ∷ z ∷ []) three s₀ s₁ s₂ e₀ e₁ e₂ = λ i. e₀ i ∷ e₁ i ∷ e₂ i ∷ []
all-skipped run (x ∷ y ∷ z ∷ w ∷ xs) three s₀ s₁ s₂ e₀ e₁ e₂ = absurd (omega arith)
