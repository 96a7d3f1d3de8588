use mathlib.Core.Path.{◌∙◌}
use Rattle.reading.specs.Reading.{run}
use Rattle.raw.specs.Stored.{numbers_reading}
use Rattle.raw.proofs.TagFacts.{stored_is}
use Rattle.raw.proofs.sample.stored_at.Goals as goal

pub returns : goal.returns
returns c =
    let a = c.args in
    c.sample_at.ensures
    ∙ stored_is a.source.file.now a.source.order a.source.tags a.row.0 a.column.0 a.plane
    (run a.source.file.now (numbers_reading a.source.order a.source.tags.strips)) _ _ _ c.place_of-place.ensures.0
    c.stored_row-r.ensures c.stored_column-c.ensures
