-- All ticks of a call, where they can be skipped on all three channels: what the call comes to. Assumes nothing.
use Prim.Native.Nat.{ℕ, ◌+◌, ◌-◌, ◌<◌, ◌≤◌}
use mathlib.Core.List.{List, [], ◌∷◌}
use mathlib.Core.Logic.{◌⊎◌, inl, inr}
use mathlib.Core.Path.{◌≡◌, sym, ap, ◌∙◌}
use native.Mathlib.Omega.{arith}
use lib.Dec.{ltb}
use lib.ListN.{length}
use borrow.Author.Tests.{lt-ltb, le-ltb}
use Rattle.channel.specs.declared.Channel.{Channel}
use Rattle.channel.specs.declared.PitType.{PitType}
use Rattle.channel.proofs.Pick.{pick-holds}
use Rattle.quiet.specs.Inner.{skip}
use Rattle.refusal.specs.Reply.{accepted}
use Rattle.board.specs.declared.Board.{Board}
use Rattle.board.specs.Outcome.{worked}
use Rattle.board.specs.Board.{owing}
use Rattle.owed.specs.Worked.{work_up_to, begun, report, work_off}
use Rattle.owed.specs.Told.{smaller}
use Rattle.owed.specs.Ticked.{Has}
use Rattle.owed.specs.Inner.{alike, Alike, quiet_run, QuietRun}
use Rattle.owed.proofs.Skips.{Few, alike-few}
use Rattle.owed.proofs.Runs.{skips-at-once}
use Rattle.owed.proofs.Working.{accepted-is, put_back, work}
use Rattle.owed.proofs.WorkedOff.{stays}

-- none is stated any more, or none owed
none_left : (stated owed run : ℕ) → smaller stated owed ≤ run → (stated - run ≡ 0) ⊎ (owed - run ≡ 0)
none_left stated owed run =
    pick-holds (λ k. k ≤ run → (stated - run ≡ 0) ⊎ (owed - run ≡ 0)) (ltb owed stated) owed stated (λ h. inr (omega arith)) (λ h. inl (omega arith))

module _ (c₀ c₁ c₂ : Channel) (owed stated : ℕ) where
  none : 0 ≡ quiet_run c₀ c₁ c₂ owed stated → QuietRun c₀ c₁ c₂ owed stated 0
  none is = record { run_is = is; in-owed = omega arith; all_quiet = λ some. absurd (omega arith) }

  pub too_many : 65536 < stated → QuietRun c₀ c₁ c₂ owed stated 0
  too_many many = none (simp (lt-ltb _ _ many))

  module _ (few : stated ≤ 65536) (run : ℕ) (found : Alike stated owed c₀ c₁ c₂ run) where
    pub not-all : run < smaller stated owed → QuietRun c₀ c₁ c₂ owed stated 0
    not-all short =
        let less : alike stated owed c₀ c₁ c₂ < smaller stated owed = rw found.number_is at short in
        none (simp (le-ltb _ _ few, lt-ltb _ _ less))

    abbrev after : Board → Board
    after b = owing b (owed - run) (skip run c₀ ∷ skip run c₁ ∷ skip run c₂ ∷ [])

    comes-to : smaller stated owed ≤ run → (b : Board) (model : PitType) → Has b (c₀ ∷ c₁ ∷ c₂ ∷ []) model owed → (events : List ℕ) (place : ℕ)
        → place ≤ length events → work_off b stated events place ≡ record { reply = accepted (worked run place); board = after b; events = events }
    comes-to all b model has events place inside =
        let f : Few stated owed c₀ c₁ c₂ run = alike-few _ _ _ _ _ _ found.number_is in
        accepted-is b stated events place inside few
        ∙ ap (λ (d : Board). report (work_up_to stated (begun d events place))) (sym (put_back has))
        ∙ ap report
        (skips-at-once run c₀ c₁ c₂ found.skips₀ found.skips₁ found.skips₂ b owed stated 0 (record { bytes = events; place = place }) f.in_left f.in-owed
        ∙ stays (stated - run) (work (0 + run) (after b) events place) (none_left stated owed run all))
        ∙ ap (λ n. report (work n (after b) events place)) (omega arith)

    pub all : smaller stated owed ≤ run → QuietRun c₀ c₁ c₂ owed stated run
    all enough =
        let f : Few stated owed c₀ c₁ c₂ run = alike-few _ _ _ _ _ _ found.number_is in
        let more : smaller stated owed ≤ alike stated owed c₀ c₁ c₂ = rw found.number_is at enough in
        record {
          run_is = simp (le-ltb _ _ few, le-ltb _ _ more) found.number_is;
          in-owed = f.in-owed;
          all_quiet = λ some. comes-to enough;
        }
