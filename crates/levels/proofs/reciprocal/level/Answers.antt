use mathlib.Core.Path.{◌≡◌, ap, ◌∙◌}
use lib.Ieee.{Float, binary64, mul}
use Rattle.levels.specs.Facts.Reciprocal.{capped_of, whole_of, level_by}
use Rattle.levels.proofs.Clamps.{level_is_by}
use Rattle.levels.proofs.reciprocal.level.Goals as goal

pub returns : goal.returns
returns c difference span p q =
    let a = c.args in
    let e : c.whole.result ≡ level_by a.d a.r = c.whole.ensures
    ∙ ap whole_of (c.capped.ensures
    ∙ ap (λ (x : Float). capped_of (mul binary64 x a.r)) c.floored.ensures) in
    e ∙ level_is_by difference span a.d a.r p q
