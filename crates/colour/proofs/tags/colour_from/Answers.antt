use mathlib.Core.Path.{refl}
use Rattle.colour.proofs.tags.colour_from.Goals as goal

pub returns : goal.returns
returns c =
    refl
