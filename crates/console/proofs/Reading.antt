-- What is read of bytes that are known: as many of the first as are taken.
use Rattle.std.proofs.Common.{◌≡◌, ℕ, List, [], ◌++◌, take, subst}
use Rattle.std.specs.Prelude.{Option, None, Some, IfSome}
use Rattle.std.specs.Option.{option_map}

known_front :
    (known : Option (List ℕ))
    → (limit : ℕ)
    → (read : List ℕ)
    → IfSome (option_map (take limit) known) (λ bytes. read ≡ [] ++ bytes)
    → IfSome known (λ bytes. read ≡ take limit bytes)
known_front None limit read h = h
known_front (Some bytes) limit read h = h

pub read_front :
    {R : Type 0} (remaining : R → Option (List ℕ)) (input inner : R)
    → (most limit : ℕ)
    → (start read : List ℕ)
    → inner ≡ input
    → limit ≡ most
    → start ≡ []
    → IfSome (option_map (take limit) (remaining inner)) (λ bytes. read ≡ start ++ bytes)
    → IfSome (remaining input) (λ bytes. read ≡ take most bytes)
read_front remaining input inner most limit start read same-input same-limit same-start h =
    known_front (remaining input) most read
    (subst (λ i. IfSome (option_map (take most) (remaining i)) (λ bytes. read ≡ [] ++ bytes)) same-input
    (subst (λ l. IfSome (option_map (take l) (remaining inner)) (λ bytes. read ≡ [] ++ bytes)) same-limit
    (subst (λ s. IfSome (option_map (take limit) (remaining inner)) (λ bytes. read ≡ s ++ bytes)) same-start h)))
