use Rattle.std.proofs.Common.{ℕ, ◌<◌, ◌≡◌, ◌∙◌, sym, true, false, inl, inr, arith}
use Rattle.encoding.specs.Loaded.{readable}
use Rattle.encoding.specs.Inner.{is_record}
use Rattle.encoding.proofs.Inner.{is-record}
use Rattle.board_encoding.specs.Loaded.{record_part, board_readable}
use Rattle.board_encoding.proofs.Only.{part_length}
use Rattle.in_bytes.proofs.board_readable.Goals as goal
use Rattle.in_bytes.proofs.board_readable.Goals.{then-first, else-first, then-second, else-second}

pub returns-then-third : goal.returns-then-third
unfolding board_readable
returns-then-third c =
    let bytes = c.args.bytes.now in
    let good : (n : ℕ) → n < 3 → is_record (record_part bytes n) ≡ readable (record_part bytes n) = λ n on. let there = part_length bytes c.requires n on in is-record (record_part bytes n) (omega arith) in
    let first = c.is_record-first.ensures ∙ good 0 (omega arith) in
    let second = c.is_record-second.ensures ∙ good 1 (omega arith) in
    let third = c.is_record-third.ensures ∙ good 2 (omega arith) in
    elim c.if-first.branch [
      | then-first w ↦
          elim c.if-second.branch [
            | then-second v ↦
                let one : readable (record_part bytes 0) ≡ true = cc in
                let two : readable (record_part bytes 1) ≡ true = cc in
                let three : readable (record_part bytes 2) ≡ true = cc in
                simp (c.own_readable.ensures, one, two, three)
            | else-second v ↦ cc
          ]
      | else-first w ↦ elim c.if-second.branch [ then-second v ↦ cc | else-second v ↦ cc ]
    ]

pub returns-else-third : goal.returns-else-third
unfolding board_readable
returns-else-third c =
    let bytes = c.args.bytes.now in
    let good : (n : ℕ) → n < 3 → is_record (record_part bytes n) ≡ readable (record_part bytes n) = λ n on. let there = part_length bytes c.requires n on in is-record (record_part bytes n) (omega arith) in
    let first = c.is_record-first.ensures ∙ good 0 (omega arith) in
    let second = c.is_record-second.ensures ∙ good 1 (omega arith) in
    let third = c.is_record-third.ensures ∙ good 2 (omega arith) in
    let none : board_readable bytes ≡ false =
    elim c.if-third.either [
      | inl p ↦
          let one : readable (record_part bytes 0) ≡ true = sym first ∙ p.0 in
          let two : readable (record_part bytes 1) ≡ true = sym second ∙ p.1 in
          let three : readable (record_part bytes 2) ≡ false = sym third ∙ p.2 in
          simp (one, two, three)
      | inr q ↦
          elim q [
            | inl p ↦
                let one : readable (record_part bytes 0) ≡ true = sym first ∙ p.0 in
                let two : readable (record_part bytes 1) ≡ false = sym second ∙ p.1 in
                simp (one, two)
            | inr p ↦ let one : readable (record_part bytes 0) ≡ false = sym first ∙ p in simp one
          ]
    ] in
    elim c.if-first.branch [
      | then-first w ↦ elim c.if-second.branch [ then-second v ↦ elim c.if-third.either [ inl p ↦ cc | inr q ↦ elim q [ inl p ↦ cc | inr p ↦ cc ] ] | else-second v ↦ cc ]
      | else-first w ↦ elim c.if-second.branch [ then-second v ↦ cc | else-second v ↦ cc ]
    ]
