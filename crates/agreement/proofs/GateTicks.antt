-- G0 to G5 with ticks: the gate's table holds of document 01's record, unless the channel waits for a reload, where an edge is ignored
-- (docs/DIFFERENCES.md, B2). What an edge does at once is in proofs/Gate.antt. Assumes nothing.
use Rattle.agreement.specs.Gating.{GatesAgree}
use Rattle.agreement.proofs.GateStops as stops
use Rattle.agreement.proofs.GateOutput as output
use Rattle.agreement.proofs.GateNothing as nothing
use Rattle.agreement.proofs.GateRise as rise
use Rattle.agreement.proofs.GateRisen as risen

pub gate-agrees : GatesAgree
gate-agrees model c acts =
    record {
      low-stops = stops.low-stops model c;
      low-takes-nothing = stops.low-takes-nothing c;
      low-raises = output.low-raises model c acts;
      low-leaves = output.low-leaves c;
      low_stands = λ zero-mode going. output.low_stands model c going zero-mode;
      low-strobes-once = λ strobe going. output.low-strobes-once model c going strobe;
      low-nothing = nothing.low-nothing model c;
      rising-loads = rise.rising-loads model c acts;
      rising-nothing = risen.rising-nothing c;
      risen-counts = risen.risen-counts model c;
      high-nothing = nothing.high-nothing model c;
    }
