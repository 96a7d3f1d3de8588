use mathlib.Core.Path.{◌≡◌, sym, ap, ◌∙◌}
use Prim.Native.Nat.{ℕ, ◌+◌, ◌*◌}
use borrow.Author.Rules.{rules}
use Rattle.levels.specs.Facts.Reciprocal.{of_parts}
use Rattle.reading.specs.Reading.{run}
use Rattle.raw.specs.Stored.{levels_reading}
use Rattle.raw.proofs.StoredLaws.{repeat_columns_are}
use Rattle.samples.specs.Facts.Along.{cell_along}
use Rattle.samples.proofs.Alongs.{cell_next}
use Rattle.samples.proofs.along.cells_row.Goals as goal

pub returns : goal.returns
returns c =
    let n = c.args.source.tags.frame.samples in
    let v = run c.args.source.file.now (levels_reading c.args.source.order c.args.source.tags) in
    let p : v.repeat_columns ≡ c.args.source.tags.levels.repeat.columns = repeat_columns_are c.args.source.file.now c.args.source.order c.args.source.tags in
    c.repeated.ensures (λ j. of_parts (cell_along v n c.args.row.0 c.args.column.0 j)) (λ j x b h. search rules)
    (λ j. ap of_parts (ap (λ (q : ℕ). cell_along v n c.args.row.0 c.args.column.0 (j + q * n)) (sym p)
    ∙ cell_next v n c.args.source.within.frame.some_samples _ _ j))
