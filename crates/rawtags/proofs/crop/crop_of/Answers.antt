use mathlib.Core.Path.{◌∙◌}
use Rattle.std.proofs.Common.{rules}
use Rattle.rawtags.specs.Crop.{crop_reading}
use Rattle.rawtags.proofs.Chain.{on, off, end, exit}
use Rattle.rawtags.proofs.crop.crop_of.Goals as goal

pub returns-in_err-size : goal.returns-in_err-size
unfolding crop_reading
returns-in_err-size c =
    (exit _ _ _ _ c.from_residual-in_err-size.ensures.1 (on _ _ _ c.in_ok-origin.ensures (off _ _ _ c.in_err-size.ensures)), search rules)

pub returns : goal.returns
unfolding crop_reading
returns c =
    (on _ _ _ c.in_ok-origin.ensures (on _ _ _ c.in_ok-size.ensures (c.tested_crop.ensures.0 ∙ end _ _)), c.tested_crop.ensures.1)
