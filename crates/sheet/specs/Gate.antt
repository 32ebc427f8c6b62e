-- What an edge of the gate does at once and by the next tick, and what its level does to the ticks: lines G0 to G5 of docs/SHEETS.md.
use Rattle.std.specs.Prelude.{ℕ, Bool, true, false, [], ◌∷◌, get_or}

-- the words of the table: "stops counting", "output high at once", "load on the next tick", "output low on the next tick"
pub record Effect : Type 0 where
  pub stops : Bool
  pub raises : Bool
  pub loads : Bool
  pub lowers : Bool

abbrev pub nothing : Effect
nothing = record { stops = false; raises = false; loads = false; lowers = false }

abbrev pub stops_only : Effect
stops_only = record { stops = true; raises = false; loads = false; lowers = false }

abbrev pub stops_and_raises : Effect
stops_and_raises = record { stops = true; raises = true; loads = false; lowers = false }

abbrev pub loads_next : Effect
loads_next = record { stops = false; raises = false; loads = true; lowers = false }

-- G1: "load and output low on the next tick"
abbrev pub loads_low : Effect
loads_low = record { stops = false; raises = false; loads = true; lowers = true }

-- the column "low or going low", G0 to G5
abbrev pub fall_effect : ℕ → Effect
fall_effect mode = get_or (stops_only ∷ nothing ∷ stops_and_raises ∷ stops_and_raises ∷ stops_only ∷ nothing ∷ []) mode nothing

-- the column "rising", G0 to G5
abbrev pub rise_effect : ℕ → Effect
rise_effect mode = get_or (nothing ∷ loads_low ∷ loads_next ∷ loads_next ∷ nothing ∷ loads_next ∷ []) mode nothing

-- the column "high", G0 to G5: counting, or nothing
abbrev pub high_counts : ℕ → Bool
high_counts mode = get_or (true ∷ false ∷ true ∷ true ∷ true ∷ false ∷ []) mode false
