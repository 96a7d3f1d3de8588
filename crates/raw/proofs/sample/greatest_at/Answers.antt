use mathlib.Core.Path.{refl, sym, ◌∙◌}
use mir.Syntax.{w64}
use mir.Val.{SFits}
use mir.Facts.{to_z-of_z}
use Rattle.reading.specs.Reading.{run}
use Rattle.levels.specs.Levels.{greatest_black}
use Rattle.raw.specs.Stored.{levels_reading}
use Rattle.raw.proofs.TagFacts.{span_in}
use Rattle.raw.proofs.SpanLaws.{span_is}
use borrow.Author.Rules.{rules}
use Rattle.raw.proofs.sample.greatest_at.Goals as goal

pub greatest_black-requires : goal.greatest_black-requires
greatest_black-requires c =
    let fs : SFits w64 c.span_at.result = search rules in
    rw (to_z-of_z fs, c.span_at.ensures) (c.args.source.within.spans c.args.plane c.requires)

pub returns : goal.returns
returns c =
    let a = c.args in
    let f = a.source.file.now in
    let l = run f (levels_reading a.source.order a.source.raw.tags) in
    let span-at = c.span_at in
    let white-at = c.white_at-white in
    let fs : SFits w64 span-at.result = search rules in
    let fg : SFits w64 c.greatest_black.result = search rules in
    let e = span-at.ensures ∙ span_in f a.source.order a.source.raw c.args.source.within a.plane c.requires in
    rw (to_z-of_z fg) (c.greatest_black.ensures (greatest_black l a.plane)
    (rw (to_z-of_z fs) (e ∙ sym (span_is l a.plane white-at.result _ white-at.ensures refl))))
