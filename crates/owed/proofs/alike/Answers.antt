-- The least of all is few enough for each channel; of a channel that is an argument it is known that its element has 16 bits.
use Rattle.std.proofs.Common.{◌≡◌, ◌∙◌, ◌<◌, ap, ap₂, arith}
use Rattle.quiet.specs.Inner.{quiet}
use Rattle.owed.specs.Told.{smaller}
use Rattle.owed.specs.Inner.{alike}
use Rattle.owed.proofs.Skips.{min-smaller, alike-few, quiet-skips}
use Rattle.owed.proofs.alike.Goals as goal

pub returns : goal.returns
returns c =
    let a = c.args in
    let last : c.min-last.result ≡ smaller (quiet a.c1) (quiet a.c2) = c.min-last.ensures ∙ min-smaller c.quiet.result c.quiet-2.result ∙ ap₂ smaller c.quiet.ensures c.quiet-2.ensures in
    let all : c.min-all.result ≡ smaller (quiet a.c0) (smaller (quiet a.c1) (quiet a.c2)) = c.min-all.ensures ∙ min-smaller c.quiet-3.result c.min-last.result ∙ ap₂ smaller c.quiet-3.ensures last in
    let is : c.min.result ≡ alike a.left a.owed a.c0 a.c1 a.c2 = c.min.ensures ∙ min-smaller a.left c.min-due.result ∙ ap (smaller a.left) (c.min-due.ensures ∙ min-smaller a.owed c.min-all.result ∙ ap (smaller a.owed) all) in
    let few = alike-few a.left a.owed a.c0 a.c1 a.c2 c.min.result is in
    let fits₀ : a.c0.counter.counting_element < 65536 = omega arith in
    let fits₁ : a.c1.counter.counting_element < 65536 = omega arith in
    let fits₂ : a.c2.counter.counting_element < 65536 = omega arith in
    record {
      number_is = is;
      skips₀ = quiet-skips _ a.c0 fits₀ few.in-quiet₀;
      skips₁ = quiet-skips _ a.c1 fits₁ few.in-quiet₁;
      skips₂ = quiet-skips _ a.c2 fits₂ few.in-quiet₂;
    }
