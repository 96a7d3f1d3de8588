use mathlib.Core.Path.{◌∙◌}
use Rattle.demand.proofs.Refusals.{window_fits}
use Rattle.dng.proofs.Answered.{window_small, window_told}
use Rattle.dng.proofs.dng_window.Goals as goal

pub packed-requires : goal.packed-requires
packed-requires c =
    window_small _ _ _ c.window-answer.ensures (window_fits _ _ _ _ _ _)

pub returns : goal.returns
returns c =
    let told = window_told _ _ _ c.window-answer.ensures in record {
      value = c.packed.ensures ∙ told.0;
      out_after = told.1;
    }
