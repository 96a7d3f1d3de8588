use mathlib.Core.Path.{refl}
use Rattle.dng.specs.Interface.{packed_of}
use Rattle.dng.proofs.packed.Goals as goal

pub returns : goal.returns
unfolding packed_of
returns g c =
    rw (c.told-number.ensures.0, c.told-number.ensures.2) refl
