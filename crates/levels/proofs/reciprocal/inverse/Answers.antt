use mathlib.Core.Path.{ap, ◌∙◌}
use lib.Ieee.{Float, binary64, div, of_bits}
use mir.Facts.{to_z-of_z}
use Rattle.levels.specs.Facts.Reciprocal.{most_raised, inverse_of}
use Rattle.levels.proofs.reciprocal.inverse.Goals as goal

pub returns : goal.returns
unfolding of_bits
returns c =
    ap (λ (x : Float). div binary64 most_raised x) c.number_of.ensures ∙ ap inverse_of (to_z-of_z c.ranges.s)
