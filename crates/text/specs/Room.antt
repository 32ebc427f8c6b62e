-- Not for readers: the bytes and the length of a text in a room are found again from the text, since zeros are behind it.
use Rattle.std.specs.Prelude.{ℕ, ◌-◌, ◌≤◌, List, ◌++◌, ◌≡◌, length, take, drop, replicate}
use Rattle.std.proofs.Common.{arith}
use Rattle.std.proofs.lemmas.List.{take-append-drop, length-take-le}

pub whole_again : (room len : ℕ) (bytes : List ℕ) → len ≤ room → length bytes ≡ room → drop len bytes ≡ replicate (room - len) 0
    → take len bytes ++ replicate (room - length (take len bytes)) 0 ≡ bytes
whole_again room len bytes within full zeros =
    rw (length-take-le len bytes (omega (arith, full))) (rw (← zeros) (take-append-drop len bytes))

pub length_again : (room len : ℕ) (bytes : List ℕ) → len ≤ room → length bytes ≡ room → length (take len bytes) ≡ len
length_again room len bytes within full = length-take-le len bytes (omega (arith, full))
