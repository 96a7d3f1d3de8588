use mathlib.Core.Path.{ap, ◌∙◌}
use Prim.Native.Nat.{◌<◌}
use native.Mathlib.Omega.{arith}
use lib.IntN.{ℤ, nat_abs}
use lib.Ieee.{binary64, div, of_int, of_bits}
use mir.Facts.{to_z-of_z}
use Rattle.levels.proofs.Values.{parts, parts_divided}
use Rattle.levels.proofs.reciprocal.number_of.Goals as goal
use Rattle.levels.proofs.reciprocal.number_of.Goals.{Start}

pub returns : goal.returns
unfolding of_bits
returns c =
    let h : nat_abs c.args.z < 0x1_0000_0000 = c.requires in
    ap (λ (z : ℤ). div binary64 (of_int binary64 z) parts) (to_z-of_z c.ranges.z) ∙ parts_divided c.args.z (omega arith)
