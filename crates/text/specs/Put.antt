-- Text put into lent bytes at a place.
use Rattle.std.specs.Prelude.{ℕ, ◌+◌, cond, List, ◌++◌, ltb, length, take, drop}

-- the place behind the text, and the lent bytes
pub record Put : Type 0 where
  pub place : ℕ
  pub bytes : List ℕ

-- the text takes the place of as many bytes; no other byte changes
abbrev pub over : List ℕ → List ℕ → ℕ → List ℕ
over text bytes place = take place bytes ++ text ++ drop (place + length text) bytes

-- text that does not fit is not put at all
unfoldable pub put : List ℕ → List ℕ → ℕ → Put
put text bytes place =
    cond (ltb (length bytes) (place + length text)) (record { place = place; bytes = bytes })
    (record { place = place + length text; bytes = over text bytes place })

-- what the code answers, with the lent bytes at its end
abbrev pub answered : ℕ → List ℕ → Put
answered place bytes = record { place = place; bytes = bytes }
