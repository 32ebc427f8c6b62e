-- The bytes of operations from a place on: one, and none left; and the trace that has them.
use Rattle.std.proofs.Common.{◌≡◌, ℕ, suc, ◌+◌, ◌-◌, ◌*◌, ◌%◌, ◌<◌, ◌≤◌, List, get_or, set, sym, refl, ap, ◌∙◌, ap₂, add-one, arith}
use Rattle.numbers.specs.Little.{four_bytes}
use Rattle.text.specs.Put.{Put, put, answered}
use Rattle.checkpoint_limits.specs.Made.{over_and_over, plain_for}

module _ (source bytes : List ℕ) (place end : ℕ) where
  one-more : place < end
      → over_and_over source place (end - place) bytes ≡ over_and_over source (place + 1) (end - (place + 1)) (set bytes place (get_or source (16 + (place - 16) % 3600) 0))
  unfolding over_and_over
  one-more more =
      let left : end - place ≡ suc (end - (place + 1)) = omega arith in
      rw (left, add-one) refl

  -- the code's byte and lent bytes
  pub goes-on : place < end → (byte : ℕ) → byte ≡ get_or source (16 + (place - 16) % 3600) 0 → (last : List ℕ) → last ≡ set bytes place byte
      → over_and_over source (place + 1) (end - (place + 1)) last ≡ over_and_over source place (end - place) bytes
  goes-on more byte is last left = rw (left, is) (sym (one-more more))

  pub none_left : end ≤ place → over_and_over source place (end - place) bytes ≡ bytes
  unfolding over_and_over
  none_left all =
      let left : end - place ≡ 0 = omega arith in
      rw left refl

pub plain-made : (source bytes : List ℕ) (operations end first : ℕ) (headed numbered last : List ℕ) → answered first headed ≡ put source bytes 0
    → numbered ≡ (put (four_bytes operations) headed 12).bytes → end ≡ 16 + 6 * operations → last ≡ over_and_over source 16 (end - 16) numbered
    → answered end last ≡ plain_for source operations bytes
unfolding plain_for
plain-made source bytes operations end first headed numbered last h n e o =
    let many : end - 16 ≡ 6 * operations = omega arith in
    let head = n ∙ ap (λ (p : Put). (put (four_bytes operations) p.bytes 12).bytes) h in
    ap₂ answered e (o ∙ ap₂ (over_and_over source 16) many head)
