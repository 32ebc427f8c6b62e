-- A model and its number. Document 01, "Recorded traces": "model (0 8253, 1 8254)"; docs/ENCODING.md has the same numbers.
use Rattle.std.specs.Prelude.{ℕ, cond, eqb}
use Rattle.channel.specs.declared.PitType.{PitType}
use Rattle.channel.specs.declared.PitType.TheVariants.{Model8253, Model8254}

abbrev pub model_number : PitType → ℕ
model_number Model8253 = 0
model_number Model8254 = 1

-- the model that a number names: any above 1 names the 8254 too; callers refuse such a number before
abbrev pub model_numbered : ℕ → PitType
model_numbered n = cond (eqb n 0) Model8253 Model8254
