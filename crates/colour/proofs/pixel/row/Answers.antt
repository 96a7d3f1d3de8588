use mathlib.Core.Path.{refl}
use Rattle.colour.proofs.pixel.row.Goals as goal

pub returns : goal.returns
returns c =
    refl
