-- What the else of a `let .. else` on a command knows: a command that sets no mode, latches nothing and reads nothing back is nothing. Assumes nothing.
use mathlib.Core.Path.{◌≡◌, refl}
use mathlib.Core.List.{[], ◌∷◌}
use types.Run.{OneOf, miss}
use denote.Enum.Declared.{tag_of}
use Rattle.control.specs.declared.Command.{Command}
use Rattle.control.specs.declared.Command.TheVariants.{Nothing, LatchCount, SetMode, ReadBack}
use Rattle.control.specs.contracts.Command.{the_type}

pub nothing_left : (k : Command) → OneOf (0 ∷ 1 ∷ 3 ∷ []) (tag_of the_type k) → OneOf (0 ∷ 2 ∷ 3 ∷ []) (tag_of the_type k)
    → OneOf (0 ∷ 1 ∷ 2 ∷ []) (tag_of the_type k) → k ≡ Nothing
nothing_left Nothing unset unlatched unread = refl
nothing_left (LatchCount n) unset unlatched unread = absurd (miss (0 ∷ 2 ∷ 3 ∷ []) 1 tt unlatched)
nothing_left (SetMode n w) unset unlatched unread = absurd (miss (0 ∷ 1 ∷ 3 ∷ []) 2 tt unset)
nothing_left (ReadBack w) unset unlatched unread = absurd (miss (0 ∷ 1 ∷ 2 ∷ []) 3 tt unread)
