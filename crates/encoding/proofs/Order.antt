-- The order of the four bytes of cycles in state, which no operation shows: each keeps the number or makes it 0. Assumes nothing.
use mathlib.Core.Path.{◌≡◌, refl}
use mathlib.Core.List.{[], ◌∷◌, ◌++◌}
use lib.ListN.{replicate}
use Rattle.numbers.specs.Little.{four_bytes}
use Rattle.numbers.specs.Number.{number_at}
use Rattle.encoding.specs.Loaded.{counter_spelled}

stored : four_bytes 0x04030201 ≡ 1 ∷ 2 ∷ 3 ∷ 4 ∷ []
stored = refl

loaded : (counter_spelled (replicate 15 0 ++ 1 ∷ 2 ∷ 3 ∷ 4 ∷ [])).cycles_in_state ≡ 0x04030201
unfolding number_at
loaded = refl
