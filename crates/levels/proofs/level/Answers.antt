use mathlib.Core.Path.{◌≡◌, sym, ap, ◌∙◌, subst}
use Prim.Native.Nat.{◌≤◌}
use native.Mathlib.Omega.{arith}
use lib.Dec.{T}
use lib.IntN.{pos}
use lib.Ieee.{Float, binary64, of_int, in_unsigned, to_unsigned}
use lib.Ieee.Back.{unsigned_back}
use mir.Facts.{to_z-of_z}
use Rattle.reading.proofs.Wholes.{in_float_law}
use Rattle.levels.specs.Level.{level_of}
use Rattle.levels.specs.Facts.Reciprocal.{of_parts, inverse_of}
use Rattle.levels.proofs.Rounding.{level_most}
use Rattle.levels.proofs.level.Goals as goal
use Rattle.levels.proofs.level.Goals.{After-level}

-- L as f64
found : (k : After-level) → let a = k.args in k.level.result ≡ of_int binary64 (pos (level_of a.d a.s))
found k =
    k.level.ensures k.args.d k.args.s
    (record { small = k.requires.0; number = k.number_of.ensures ∙ ap of_parts (to_z-of_z k.ranges.d) })
    (record { inside = k.requires.1; number = k.inverse.ensures ∙ ap inverse_of (to_z-of_z k.ranges.s) })

-- is a whole number
whole : (k : After-level) → let a = k.args in
    T (in_unsigned binary64 16 k.level.result) × (to_unsigned 16 k.level.result ≡ level_of a.d a.s)
whole k =
    let a = k.args in
    let l : level_of a.d a.s ≤ 65535 = level_most a.d a.s in
    subst (λ (x : Float). T (in_unsigned binary64 16 x) × (to_unsigned 16 x ≡ level_of a.d a.s)) (sym (found k))
    (unsigned_back binary64 16 (level_of a.d a.s) (in_float_law (pos (level_of a.d a.s)) (omega arith)) (omega arith))

pub float_to_int-result : goal.float_to_int-result
float_to_int-result c =
    (whole (goal.at.float_to_int-result c).After-level).0

pub returns : goal.returns
returns c =
    (whole (goal.at.returns c).After-level).1
