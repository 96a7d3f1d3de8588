use mathlib.Core.Path.{◌∙◌}
use mir.Syntax.{w64}
use mir.Val.{SFits}
use mir.Facts.{to_z-of_z}
use Rattle.raw.proofs.TagFacts.{greatest_black_is}
use borrow.Author.Rules.{rules}
use Rattle.raw.proofs.greatest.greatest_black.Goals as goal

pub returns-clause-value : goal.returns-clause-value
returns-clause-value c =
    let a = c.args in
    let f : SFits w64 c.greatest_by_residues.result = search rules in
    rw (to_z-of_z f) (c.greatest_by_residues.ensures.value ∙ greatest_black_is a.source.file.now a.source.order a.source.tags a.deltas a.plane _ _
    c.args.source.within c.requires.greatest_in c.min-down.ensures c.min-across.ensures)
