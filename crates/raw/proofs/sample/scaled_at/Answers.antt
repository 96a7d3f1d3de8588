use mathlib.Core.Path.{◌∙◌}
use mir.Syntax.{w64}
use mir.Val.{SFits}
use mir.Facts.{to_z-of_z}
use Rattle.reading.specs.Reading.{run}
use Rattle.raw.specs.Stored.{numbers_reading}
use Rattle.raw.proofs.TagFacts.{table_inside, scaled_is, stored_is, span_in}
use borrow.Author.Rules.{rules}
use Rattle.raw.proofs.sample.scaled_at.Goals as goal

pub through-v-requires : goal.through-v-requires
through-v-requires c =
    let a = c.args in
    let pre = c.requires in
    table_inside a.source.file.now a.source.order a.source.raw.tags a.source.within.tags

pub scaled_sample-requires : goal.scaled_sample-requires
scaled_sample-requires c =
    let black-at = c.black_at-black in
    let fb : SFits w64 black-at.result = search rules in
    let fs : SFits w64 c.span_at.result = search rules in
    rw (to_z-of_z fb, to_z-of_z fs, c.span_at.ensures) (black-at.ensures.result_bound, c.args.source.within.spans c.args.plane c.requires.plane)

pub returns : goal.returns
returns c =
    let a = c.args in
    let pre = c.requires in
    let Stored-row = c.stored_row-r in
    let stored-column = c.stored_column-c in
    let place_of = c.place_of-place in
    let sample-at = c.sample_at-stored in
    let through = c.through-v in
    let black-at = c.black_at-black in
    let f = a.source.file.now in
    let o = a.source.order in
    let t = a.source.raw.tags in
    let fb : SFits w64 black-at.result = search rules in
    let fs : SFits w64 c.span_at.result = search rules in
    let e = rw (to_z-of_z fb, to_z-of_z fs) at c.scaled_sample.ensures in
    e ∙ scaled_is f o t a.row.0 a.column.0 a.plane a.source.within.tags sample-at.result _ _ _
    (sample-at.ensures ∙ stored_is f o t a.row.0 a.column.0 a.plane (run f (numbers_reading o t.strips)) _ _ _
    place_of.ensures.0 Stored-row.ensures stored-column.ensures) through.ensures black-at.ensures.value
    (c.span_at.ensures ∙ span_in f o a.source.raw a.source.within a.plane pre.plane)
