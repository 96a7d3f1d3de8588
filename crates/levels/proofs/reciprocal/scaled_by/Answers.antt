use mathlib.Core.Path.{ap}
use Prim.Native.Nat.{◌≤◌}
use native.Mathlib.Omega.{arith}
use lib.Ieee.{Float, binary64, div, of_bits}
use Rattle.levels.specs.Level.{difference_of, most}
use Rattle.levels.proofs.Clamps.{difference_is}
use Rattle.levels.proofs.reciprocal.scaled_by.Goals as goal

pub returns : goal.returns
unfolding of_bits
returns c black span p q =
    let a = c.args in
    let h : a.v ≤ 65535 = omega arith in
    ap (λ (x : Float). div binary64 x most) (c.level.ensures (difference_of a.v black) span (difference_is a.v black a.b h p) q)
