-- Readable bytes of a board have one form only: they are those of the board that they spell, part by part. Assumes nothing.
use Prim.Native.Nat.{ℕ, ◌+◌, ◌-◌, ◌≤◌, ◌<◌}
use mathlib.Core.Path.{◌≡◌, refl, sym, ap, ◌∙◌}
use mathlib.Core.Bool.{Bool, true, false, ◌&&◌, ◌||◌, not, true≢false}
use mathlib.Core.List.{List, [], ◌∷◌, ◌++◌}
use native.Mathlib.Omega.{arith}
use lib.Dec.{eqb, ltb}
use lib.ListN.{length, get_or, take, drop, length-take, length-drop}
use lib.Seq.{take-add, take_all, take-take}
use borrow.Author.Tests.{ltb-false}
use Rattle.numbers.specs.Flags.{flag_number}
use Rattle.numbers.specs.Little.{four_bytes}
use Rattle.numbers.specs.Number.{number_at}
use Rattle.channel.proofs.Models.{model-number-back}
use Rattle.encoding.specs.Stored.{channel_size, channel_bytes}
use Rattle.encoding.specs.Loaded.{readable, channel_spelled}
use Rattle.encoding.proofs.Spelled.{spelled, spelled-part, four}
use Rattle.encoding.proofs.Only.{flag-only, form}
use Rattle.board_encoding.specs.Places.{record_place, model_place, divisor_place, remainder_place, warp_place, defer_place, owed_place, board_size}
use Rattle.board_encoding.specs.Stored.{settings_bytes, time_bytes, board_bytes}
use Rattle.board_encoding.specs.Loaded.{record_part, own_readable, board_readable, board_in, HoldsBoard}

all_true : (a b c d : Bool) → ((a && b) && (c && d)) ≡ true → (a ≡ true) × (b ≡ true) × (c ≡ true) × (d ≡ true)
all_true true true true true e = (refl, refl, refl, refl)
all_true true true true false e = absurd (true≢false (sym e))
all_true true true false d e = absurd (true≢false (sym e))
all_true true false c d e = absurd (true≢false (sym e))
all_true false b c d e = absurd (true≢false (sym e))

neither : (a b : Bool) → not (a || b) ≡ true → (a ≡ false) × (b ≡ false)
neither true b e = absurd (true≢false (sym e))
neither false true e = absurd (true≢false (sym e))
neither false false e = (refl, refl)

pub part_length : (bytes : List ℕ) → board_size ≤ length bytes → (n : ℕ) → n < 3 → length (record_part bytes n) ≡ channel_size
part_length bytes enough n on = simp (length-take, length-drop) (omega arith)

-- the bytes from one place up to another
abbrev pub between : List ℕ → ℕ → ℕ → List ℕ
between bytes from to = take (to - from) (drop from bytes)

-- the bytes before a place, in parts
module _ (bytes : List ℕ) where
  pub before-third : take (record_place 2) bytes ≡ record_part bytes 0 ++ record_part bytes 1
  before-third = take-add channel_size channel_size bytes

  before-own : take model_place bytes ≡ record_part bytes 0 ++ record_part bytes 1 ++ record_part bytes 2
  before-own = take-add (record_place 2) channel_size bytes ∙ ap (λ l. l ++ record_part bytes 2) before-third

  pub before-time : take remainder_place bytes ≡ record_part bytes 0 ++ record_part bytes 1 ++ record_part bytes 2 ++ between bytes model_place remainder_place
  before-time = take-add model_place (remainder_place - model_place) bytes ∙ ap (λ l. l ++ between bytes model_place remainder_place) before-own

module _ (bytes : List ℕ) (all : (p : ℕ) → get_or bytes p 0 < 256) (h : HoldsBoard bytes) where
  four-at : (p : ℕ) → four_bytes (number_at bytes p) ≡ get_or bytes p 0 ∷ get_or bytes (p + 1) 0 ∷ get_or bytes (p + 2) 0 ∷ get_or bytes (p + 2 + 1) 0 ∷ []
  four-at p = four bytes p (all p) (all (p + 1)) (all (p + 2)) (all (p + 2 + 1))

  limits-kept : (readable (record_part bytes 0) ≡ true) × (readable (record_part bytes 1) ≡ true) × (readable (record_part bytes 2) ≡ true) × (own_readable bytes ≡ true)
  unfolding board_readable
  limits-kept = all_true (readable (record_part bytes 0)) (readable (record_part bytes 1)) (readable (record_part bytes 2)) (own_readable bytes) h.within

  own-limits : (get_or bytes model_place 0 ≤ 1) × (get_or bytes defer_place 0 ≤ 1)
  own-limits =
      let e = neither (ltb 1 (get_or bytes model_place 0)) (ltb 1 (get_or bytes defer_place 0)) limits-kept.3 in
      (ltb-false _ _ e.0, ltb-false _ _ e.1)

  record-form : (n : ℕ) → n < 3 → readable (record_part bytes n) ≡ true → channel_bytes (channel_spelled (record_part bytes n)) ≡ record_part bytes n
  record-form n on good =
      form (record_part bytes n) good (let e = part_length bytes h.long n on in omega arith)
      ∙ take-take channel_size channel_size (drop (record_place n) bytes) (omega arith)

  pub first-form : channel_bytes (channel_spelled (record_part bytes 0)) ≡ record_part bytes 0
  first-form = record-form 0 (omega arith) limits-kept.0

  pub second-form : channel_bytes (channel_spelled (record_part bytes 1)) ≡ record_part bytes 1
  second-form = record-form 1 (omega arith) limits-kept.1

  pub third-form : channel_bytes (channel_spelled (record_part bytes 2)) ≡ record_part bytes 2
  third-form = record-form 2 (omega arith) limits-kept.2

  settings-spelled : settings_bytes (board_in bytes) ≡ spelled bytes model_place (remainder_place - model_place)
  unfolding board_in
  settings-spelled = λ i. model-number-back (get_or bytes model_place 0) own-limits.0 i ∷ four-at divisor_place i

  defer-byte : flag_number (eqb (get_or bytes defer_place 0) 1) ≡ get_or bytes defer_place 0
  defer-byte = flag-only (get_or bytes defer_place 0) own-limits.1

  pub settings-form : settings_bytes (board_in bytes) ≡ between bytes model_place remainder_place
  settings-form = settings-spelled ∙ spelled-part bytes model_place (remainder_place - model_place) (let long = h.long in omega arith)

  pub time-form : time_bytes (number_at bytes remainder_place) (number_at bytes warp_place) (eqb (get_or bytes defer_place 0) 1) (number_at bytes owed_place)
      ≡ between bytes remainder_place board_size
  time-form =
      (λ i. four-at remainder_place i ++ four-at warp_place i ++ defer-byte i ∷ four-at owed_place i)
      ∙ spelled-part bytes remainder_place (board_size - remainder_place) h.long

  -- all of its own, with other owed ticks
  pub owing-form : (owed : ℕ)
      → settings_bytes (board_in bytes) ++ time_bytes (number_at bytes remainder_place) (number_at bytes warp_place) (eqb (get_or bytes defer_place 0) 1) owed
      ≡ between bytes model_place owed_place ++ four_bytes owed
  owing-form owed =
      (λ i. settings-spelled i ++ four-at remainder_place i ++ four-at warp_place i ++ defer-byte i ∷ four_bytes owed)
      ∙ ap (λ (l : List ℕ). l ++ four_bytes owed) (spelled-part bytes model_place (owed_place - model_place) (let long = h.long in omega arith))

  pub only-bytes-before : board_bytes (board_in bytes) ≡ take board_size bytes
  unfolding board_bytes board_in
  only-bytes-before =
      (λ i. first-form i ++ second-form i ++ third-form i ++ settings-form i ++ time-form i)
      ∙ sym (take-add remainder_place (board_size - remainder_place) bytes ∙ ap (λ l. l ++ between bytes remainder_place board_size) (before-time bytes))

  pub only-bytes : length bytes ≡ board_size → board_bytes (board_in bytes) ≡ bytes
  only-bytes len = only-bytes-before ∙ take_all board_size bytes (omega arith)
