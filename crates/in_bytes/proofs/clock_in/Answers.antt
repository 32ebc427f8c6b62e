use Rattle.in_bytes.proofs.clock_in.Goals as goal

pub returns : goal.returns
returns c =
    λ i. record {
      divisor = c.divisor_in.ensures i;
      remainder = c.remainder_in.ensures i;
      warp = c.warp_in.ensures i;
      defer = c.defer_in.ensures i;
      owed = c.owed_in.ensures i;
    }
