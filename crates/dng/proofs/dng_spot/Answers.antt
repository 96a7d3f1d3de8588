use mathlib.Core.Path.{◌∙◌}
use lib.Ieee.{of_bits}
use Rattle.demand.proofs.Refusals.{spot_fits}
use Rattle.dng.proofs.Answered.{spot_small, spot_told}
use Rattle.dng.proofs.dng_spot.Goals as goal

pub packed-requires : goal.packed-requires
packed-requires c =
    spot_small _ _ c.spot-answer.ensures (spot_fits _ _ _ _)

pub returns : goal.returns
unfolding of_bits
returns c =
    let told = spot_told _ _ c.spot-answer.ensures in record {
      value = c.packed.ensures ∙ told.0;
      value_after = c.unwrap_or.ensures ∙ told.1;
    }
