use lib.Ieee.{of_bits}
use mathlib.Core.Path.{refl}
use Rattle.colour.proofs.Mean.{mean_developed}
use Rattle.colour.proofs.pixel.mean.Goals as goal

pub returns : goal.returns
unfolding of_bits
returns c =
    record { value = refl; developed = mean_developed _ _ }
