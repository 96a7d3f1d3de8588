use mathlib.Core.Path.{◌≡◌, sym, ap, subst}
use Prim.Native.Nat.{ℕ, ◌+◌, ◌-◌, ◌*◌, ◌%◌}
use native.Mathlib.Omega.{arith}
use lib.ListN.{length}
use Rattle.tables.specs.Facts.RowTables.{RowTables}
use Rattle.develop.specs.Facts.Tabled.{levels_of, rows_met, columns_met}
use Rattle.develop.proofs.Bands.{row_tables}
use Rattle.develop.proofs.tabled.band_row.Goals as goal

pub table_part-requires-clause-tags_value : goal.table_part-requires-clause-tags_value
table_part-requires-clause-tags_value c =
    let a = c.args in
    let f = a.file.now in
    let v = a.view in
    let w = a.window in
    let h = c.requires.0 in
    let e : a.i % c.rows_met.result ≡ a.i % rows_met v w = ap (λ (z : ℕ). a.i % z) c.rows_met.ensures in
    let j = a.i % c.rows_met.result - a.from in
    let first : j * c.columns_met-columns.result ≡ j * columns_met v w = ap (λ (z : ℕ). j * z) c.columns_met-columns.ensures in (
      h.has,
      omega (arith, c.requires.3, h.some_columns),
      subst (λ (z : ℕ). RowTables (levels_of f v) (w.top + a.i) w.left (length a.out.now) a.tables.now z) (sym first)
          (row_tables f v w h a.from a.count a.i _ _ a.tables.now c.requires.1 c.requires.2 e c.if-from-down.true c.if-down-from.true
          c.requires.3),
    )
