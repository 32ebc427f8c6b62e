-- G0 to G5 in step with the sheets' counter: every level at the gate. Assumes nothing.
use Prim.Native.Nat.{ℕ}
use mathlib.Core.Bool.{Bool, true, false}
use mathlib.Core.Path.{◌≡◌, refl, sym, ap, ◌∙◌, subst}
use Rattle.channel.specs.declared.Channel.{Channel}
use Rattle.channel.specs.declared.PitType.{PitType}
use Rattle.gate.specs.Gate as gate
use Rattle.sheet.specs.Counter.{Fixed, Phase}
use Rattle.agreement.specs.Watching.{Watch, unprogrammed, watching, watch_gate, IsFixed, HoldsValue}
use Rattle.agreement.proofs.Gate.{level-kept}
use Rattle.agreement.proofs.Tracking.{core_of, view, Rules, Holds, Tracks, not_yet, tracked}
use Rattle.agreement.proofs.GateCores.{same-core}
use Rattle.agreement.proofs.GateTables.{gate-reloading}
use Rattle.agreement.proofs.TrackRise.{gate_step, rise-tracks}
use Rattle.agreement.proofs.TrackFall.{fall-tracks}

module _ (model : PitType) (one : Fixed Bool) (v : Fixed ℕ) (c : Channel) (rules : Rules model one (core_of c))
    (value-is : HoldsValue v c.control.bcd_mode c.counter.counting_element) where
  module _ (o : Fixed Bool) (output-is : IsFixed o c.pins.output) where
    -- any level, from any other
    gate-by : (was level : Bool) (p : Phase) (late : Bool) → c.pins.gate ≡ was → Holds model p o v late one (core_of c)
        → Tracks model (gate_step was level (view (core_of c) p o v) late one) (core_of (gate.set_gate c level))
    gate-by false false p late is h = subst (Tracks model (watching (view (core_of c) p o v) late one)) (sym (same-core c false is)) (tracked p o v late one refl h)
    gate-by false true p late is h = rise-tracks model one v c rules value-is o output-is p late is h.phase-is
    gate-by true false p late is h = fall-tracks model one v c rules value-is o output-is is p late h.phase-is
    gate-by true true p late is h = subst (Tracks model (watching (view (core_of c) p o v) late one)) (sym (same-core c true is)) (tracked p o v late one refl h)

pub gate-tracks : (model : PitType) (w : Watch) (c : Channel) (level : Bool) → Tracks model w (core_of c)
    → Tracks model (watch_gate w level) (core_of (gate.set_gate c level))
gate-tracks model w c level (not_yet one is rule) =
    not_yet one (ap (λ (x : Watch). watch_gate x level) is ∙ sym (ap (λ (l : Bool). unprogrammed l one) (level-kept c level))) (rw (gate-reloading c level) rule)
gate-tracks model w c level (tracked p o v late one is h) =
    subst (λ (x : Watch). Tracks model (watch_gate x level) (core_of (gate.set_gate c level))) (sym is)
    (gate-by model one v c h.rules h.value-is o h.output-is c.pins.gate level p late refl h)
