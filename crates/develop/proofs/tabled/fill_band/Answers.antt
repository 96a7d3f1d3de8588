use mathlib.Core.Path.{◌≡◌, ap}
use Prim.Native.Nat.{ℕ, ◌*◌, ◌≤◌}
use native.Mathlib.Nat.{mul-le-mul}
use native.Mathlib.Omega.{arith}
use borrow.Author.Rules.{rules}
use lib.ListN.{length}
use Rattle.develop.proofs.Bands.{some_met, band_tables}
use Rattle.develop.proofs.Windows.{viewed_sized}
use Rattle.develop.proofs.tabled.fill_band.Goals as goal
use Rattle.develop.proofs.tabled.fill_band.Goals.{After-columns_met-columns}

-- at most 64 tables
few : (c : After-columns_met-columns) → (c.args.count * c.columns_met-columns.result ≤ 64) × (1 ≤ c.columns_met-columns.result)
few c =
    let a = c.args in
    let m = some_met a.file.now a.view a.window c.requires.0 in
    let d : a.count ≤ 8 = omega (arith, c.requires.1, m.1) in
    let n : c.columns_met-columns.result ≤ 8 = omega (arith, c.columns_met-columns.ensures, m.3) in
    (omega (arith, mul-le-mul d n), omega (arith, c.columns_met-columns.ensures, m.2))

-- for which there is room
room : (c : After-columns_met-columns) → let a = c.args in
    a.count * c.columns_met-columns.result ≤ length a.tables.now
room c =
    omega (arith, c.requires.2, ap (λ (z : ℕ). c.args.count * z) c.columns_met-columns.ensures)

pub overflow_add-row : goal.overflow_add-row
overflow_add-row c =
    let a = c.args in
    let z = viewed_sized a.file.now a.view c.requires.0.file in
    omega (arith, c.requires.0.rows, c.requires.1, z.rows)

pub overflow_mul-count : goal.overflow_mul-count
overflow_mul-count c =
    omega (arith, (few (goal.at.overflow_mul-count c).After-columns_met-columns).0)

pub invariant_of-fill_tables : goal.invariant_of-fill_tables
invariant_of-fill_tables c =
    record { within = c.requires.0.file.picture_in.raw }

pub fill_tables-requires : goal.fill_tables-requires
fill_tables-requires c =
    let met = (goal.at.fill_tables-requires c).After-columns_met-columns in
    let a = met.args in
    let z = viewed_sized a.file.now a.view met.requires.0.file in (
      omega (arith, met.requires.0.rows, met.requires.1, z.rows),
      omega (arith, met.requires.0.columns, z.columns),
      (few (goal.at.fill_tables-requires c).After-columns_met-columns).1,
      (few (goal.at.fill_tables-requires c).After-columns_met-columns).0,
      room (goal.at.fill_tables-requires c).After-columns_met-columns,
    )

pub band_rows-requires : goal.band_rows-requires
band_rows-requires c =
    let met = (goal.at.band_rows-requires c).After-columns_met-columns in
    let a = met.args in
    let fill = c.fill_tables in
    let l : length fill.new.tables ≡ length a.tables.now = search rules in (
      met.requires.0,
      band_tables a.file.now a.view a.window met.requires.0 a.from a.count met.columns_met-columns.result _ met.columns_met-columns.ensures
          (omega (arith, room (goal.at.band_rows-requires c).After-columns_met-columns, l)) fill.ensures,
      met.requires.3,
    )
