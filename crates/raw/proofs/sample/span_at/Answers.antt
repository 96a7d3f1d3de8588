use mathlib.Core.Path.{refl}
use Rattle.raw.specs.Facts.Spans.{span_at}
use lib.ListN.{get_or}
use lib.IntN.{pos}
use mir.Syntax.{w64}
use mir.Val.{SFits}
use mir.Facts.{to_z-of_z}
use borrow.Author.Rules.{rules}
use Rattle.raw.proofs.sample.span_at.Goals as goal

pub returns : goal.returns
unfolding span_at
returns c =
    let f : SFits w64 (get_or c.args.spans.planes c.min.result (pos 0)) = search rules in
    rw (to_z-of_z f, c.min.ensures) refl
