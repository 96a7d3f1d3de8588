use Rattle.directory.specs.Names.{black_level_delta_h, black_level_delta_v}
use native.Mathlib.Omega.{arith}
use Rattle.raw.proofs.StoredLaws.{column_deltas_are, row_deltas_are, rows_are, columns_are, repeat_rows_are, repeat_columns_are}
use Rattle.raw.proofs.TagFacts.{deltas_of_law}
use Rattle.raw.proofs.greatest.greatest_deltas.Goals as goal

pub by_residue-columns-requires : goal.by_residue-columns-requires
by_residue-columns-requires c =
    let h = c.args.source.within in
    record {
      deltas_of = deltas_of_law c.args.source.file.now black_level_delta_h _ _ h.levels.column_deltas;
      n_bound = (omega (arith, h.area.right, h.frame.columns), h.levels.repeat.some_columns, h.levels.repeat.columns);
    }

pub by_residue-rows-requires : goal.by_residue-rows-requires
by_residue-rows-requires c =
    let h = c.args.source.within in
    record {
      deltas_of = deltas_of_law c.args.source.file.now black_level_delta_v _ _ h.levels.row_deltas;
      n_bound = (omega (arith, h.area.bottom, h.frame.rows), h.levels.repeat.some_rows, h.levels.repeat.rows);
    }

pub returns : goal.returns
returns c =
    let f = c.args.source.file.now in
    let o = c.args.source.order in
    let t = c.args.source.tags in
    record {
      by_columns = rw (column_deltas_are f o t, columns_are f o t, repeat_columns_are f o t) c.by_residue-columns.ensures;
      by_rows = rw (row_deltas_are f o t, rows_are f o t, repeat_rows_are f o t) c.by_residue-rows.ensures;
    }
