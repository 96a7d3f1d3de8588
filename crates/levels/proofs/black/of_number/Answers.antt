use mathlib.Core.Path.{refl}
use native.Mathlib.Omega.{arith}
use Rattle.reading.specs.Fraction.{whole}
use Rattle.levels.proofs.Carried.{black_large}
use Rattle.levels.proofs.black.of_number.Goals as goal

pub returns-else-n-le65535 : goal.returns-else-n-le65535
returns-else-n-le65535 c =
    black_large (whole c.args.n) (λ h. absurd (omega arith)) refl refl (omega (arith, c.if-n-le65535.false))
