use mathlib.Core.Path.{ap, ◌∙◌}
use native.Mathlib.Omega.{arith}
use Rattle.levels.specs.Facts.Reciprocal.{of_parts}
use Rattle.samples.proofs.Lines.{back}
use Rattle.samples.proofs.along.cell_from.Goals as goal

pub returns : goal.returns
returns c =
    let z = c.cell_at in
    c.number_of.ensures ∙ ap of_parts (back z.result (omega (arith, z.ensures.result_bound)) ∙ z.ensures.value)
