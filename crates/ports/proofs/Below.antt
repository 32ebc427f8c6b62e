-- What a port number's tests come to: what holds of a data port, of the command port and of any other number holds of the port. Assumes nothing.
use Prim.Native.Nat.{ℕ, ◌+◌, ◌-◌, ◌<◌, ◌≤◌}
use mathlib.Core.Bool.{Bool, true, false, cond}
use mathlib.Core.Path.{◌≡◌, refl, subst}
use native.Mathlib.Omega.{arith}
use lib.Dec.{ltb, eqb}
use borrow.Author.Tests.{ltb-true, ltb-false, lt-ltb, le-ltb, eqb-true, eqb-false}
use Rattle.ports.specs.declared.port.Port.{Port}
use Rattle.ports.specs.declared.port.Port.TheVariants.{Data, Command}
use Rattle.std.specs.Prelude.{Option, Some, None}
use Rattle.ports.specs.Port.{port_of}

-- "0x40 to 0x43"
abbrev pub InRange : ℕ → Type 0
InRange port = (0x40 ≤ port) × (port ≤ 0x43)

module _ (port : ℕ) (P : Option Port → Type 0) (unknown : (InRange port → ⊥) → P None) (dataPort : (n : ℕ) → n < 3 → port ≡ 0x40 + n → P (Some (Data n)))
    (command : port ≡ 0x43 → P (Some Command)) where
  by_tests : (low isData isCommand : Bool) → ltb port 0x40 ≡ low → ltb port 0x43 ≡ isData → eqb port 0x43 ≡ isCommand
      → P (cond low None (cond isData (Some (Data (port - 0x40))) (cond isCommand (Some Command) None)))
  by_tests true isData isCommand l d c = let below : port < 0x40 = ltb-true _ _ l in unknown (λ range. omega arith)
  by_tests false true isCommand l d c =
      let lowest : 0x40 ≤ port = ltb-false _ _ l in
      let highest : port < 0x43 = ltb-true _ _ d in
      dataPort (port - 0x40) (omega arith) (omega arith)
  by_tests false false true l d c = command (eqb-true _ _ c)
  by_tests false false false l d c =
      let past : 0x43 ≤ port = ltb-false _ _ d in
      let other : port ≡ 0x43 → ⊥ = eqb-false _ _ c in
      unknown (λ range. omega arith)

  pub by-port : P (port_of port)
  unfolding port_of
  by-port = by_tests (ltb port 0x40) (ltb port 0x43) (eqb port 0x43) refl refl refl

-- the command port has one number
pub command-port : (port : ℕ) → port_of port ≡ Some Command → port ≡ 0x43
command-port port =
    by-port port (λ (p : Option Port). p ≡ Some Command → port ≡ 0x43) (λ out e. let z : ◌≡◌ {A = ℕ} 0 1 = cc in absurd (omega arith))
    (λ n on is e. let z : ◌≡◌ {A = ℕ} 0 1 = cc in absurd (omega arith))
    (λ is e. is)

abbrev Reaches : Option Port → Type 0
Reaches (Some (Data n)) = n < 3
Reaches (Some Command) = Unit
Reaches None = Unit

-- a data port is one of the three channels'
pub data-below : (port n : ℕ) → port_of port ≡ Some (Data n) → n < 3
data-below port n e = subst Reaches e (by-port port Reaches (λ out. tt) (λ k on is. on) (λ is. tt))

-- .. in their order
pub data-port : (n : ℕ) → n < 3 → port_of (0x40 + n) ≡ Some (Data n)
unfolding port_of
data-port n on =
    let low : 0x40 ≤ 0x40 + n = omega arith in
    let high : 0x40 + n < 0x43 = omega arith in
    let is : 0x40 + n - 0x40 ≡ n = omega arith in
    simp (le-ltb _ _ low, lt-ltb _ _ high, is)
