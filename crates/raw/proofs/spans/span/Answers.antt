use mathlib.Core.Path.{◌∙◌}
use mir.Syntax.{w64}
use mir.Val.{SFits}
use mir.Facts.{to_z-of_z}
use Rattle.reading.specs.Reading.{run}
use Rattle.raw.specs.Stored.{levels_reading}
use Rattle.raw.proofs.SpanLaws.{span_is}
use borrow.Author.Rules.{rules}
use Rattle.raw.proofs.spans.span.Goals as goal

pub returns : goal.returns
returns c =
    let a = c.args in
    let m = c.greatest_black-black in
    let w = c.white_at in
    let d = c.difference.ensures in
    let fd : SFits w64 c.difference.result = search rules in
    let fm : SFits w64 m.result = search rules in
    let e = span_is (run a.source.file.now (levels_reading a.source.order a.source.tags)) a.plane w.result m.result w.ensures
    m.ensures.value in
    rw (to_z-of_z fd) (rw (to_z-of_z fm) at d.value ∙ e, d.result_bound)
