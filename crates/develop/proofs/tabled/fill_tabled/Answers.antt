use mathlib.Core.Path.{sym, ◌∙◌}
use native.Mathlib.Omega.{arith}
use Rattle.develop.proofs.Bands.{some_met, tabled_window, tabled_length}
use Rattle.develop.proofs.Windows.{viewed_sized}
use Rattle.develop.proofs.tabled.fill_tabled.Goals as goal
use Rattle.develop.proofs.tabled.fill_tabled.Goals.{Start, Then-has_tables}

pub pays-requires : goal.pays-requires
pays-requires c =
    let a = c.args in
    let f = a.file.now in
    let z = viewed_sized f a.view c.requires.file in
    let h = tabled_window f a.view a.window a.out.now c.requires (sym c.has_tables.ensures ∙ c.if-has_tables.true) in
    let m = some_met f a.view a.window h in (
      omega (arith, c.rows_met-rows.ensures, m.0),
      omega (arith, c.columns_met-columns.ensures, m.2),
      omega (arith, c.requires.rows, z.rows),
      omega (arith, c.requires.columns, z.columns),
    )

pub fill_by_tables-requires : goal.fill_by_tables-requires
fill_by_tables-requires c =
    let a = c.args in
    let e = sym c.has_tables.ensures ∙ c.if-has_tables.true in (
      tabled_window a.file.now a.view a.window a.out.now c.requires e,
      tabled_length a.file.now a.view a.window a.out.now c.requires e,
    )

pub returns-then-pays : goal.returns-then-pays
returns-then-pays c q =
    c.fill_by_tables.ensures q.file
