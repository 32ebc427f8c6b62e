-- Demand 3, what the two bytes spell: "(v - n) mod 65,536, or in BCD, v read as decimal, the digits of (v - n) mod 10,000."; and what is said of them (02, L3).
use Rattle.std.specs.Prelude.{ℕ, ◌/◌, ◌%◌, Bool, true, false, ◌≡◌, Some}
use Rattle.numbers.specs.Modulo.{minus_mod}
use Rattle.numbers.specs.Digits.{weight, packed}
use Rattle.numbers.specs.Radix.{radix_counts}
use Rattle.refusal.specs.Reply.{Reply, accepted}
use Rattle.latch.specs.declared.label.Label.{Label}
use Rattle.latch.specs.declared.reading.Half.TheVariants.{Low, High}
use Rattle.board.specs.Outcome.{Value, byte}

-- the count that is left of v after n counts
abbrev pub remaining : Bool → ℕ → ℕ → ℕ
remaining false v n = minus_mod (radix_counts false) v n
remaining true v n = packed (minus_mod (radix_counts true) (weight v) n)

-- a read that was accepted, gave this byte and said this of it
abbrev pub Says : ℕ → Label → Reply Value → Type 0
Says x label reply = reply ≡ accepted (byte (record { byte = x; label = label }))

-- .. and one that gave this byte, whatever it said of it
abbrev pub Gives : ℕ → Reply Value → Type 0
Gives x reply = (label : Label) × Says x label reply

-- "`low held`", "`high held`"
abbrev pub low_held : Label
low_held = record { half = Some Low; held = true }

abbrev pub high_held : Label
high_held = record { half = Some High; held = true }

-- two reads that spell a word, its low byte first, and say so of it
abbrev pub Spells : ℕ → Reply Value → Reply Value → Type 0
Spells word first second = Says (word % 256) low_held first × Says (word / 256) high_held second
