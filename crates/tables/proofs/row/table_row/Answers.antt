use mathlib.Core.Path.{ap}
use Prim.Native.Nat.{ℕ, ◌+◌, ◌-◌, ◌≤◌, min}
use native.Mathlib.Omega.{arith}
use borrow.Author.Rules.{rules}
use lib.ListN.{length, drop, length-take, length-drop}
use Rattle.raw.proofs.StoredLaws.{repeat_columns_are}
use Rattle.tables.proofs.FoundLaws.{row_found, bytes_inside}
use Rattle.tables.proofs.TableLaws.{tabled_has}
use Rattle.tables.proofs.row.table_row.Goals as goal
use Rattle.tables.proofs.row.table_row.Goals.{After-line_of-line}

-- the row's bytes lie in the file
inside : (c : After-line_of-line) → c.line_of-line.result.place + length c.args.out.now ≤ length c.args.file.now
inside c =
    bytes_inside c.args.file.now c.args.order c.args.raw c.requires.raw_in.0 (tabled_has c.args.raw.tags c.requires.tags_value.0)
    c.args.row.0 c.args.column.0 c.requires.raw_in.1 _ c.line_of-line.ensures _ c.requires.tags_value.1 c.requires.raw_in.3

pub overflow_add-end : goal.overflow_add-end
overflow_add-end c =
    omega (arith, inside (goal.at.overflow_add-end c).After-line_of-line, c.well_formed.0)

pub slice_bounds-look_up_row-end : goal.slice_bounds-look_up_row-end
slice_bounds-look_up_row-end c =
    inside (goal.at.slice_bounds-look_up_row-end c).After-line_of-line

pub look_up_row-requires : goal.look_up_row-requires
look_up_row-requires c =
    let line = (goal.at.look_up_row-requires c).After-line_of-line in
    let a = line.args in
    let f = a.file.now in
    let p = line.line_of-line.result.place in
    let n = length a.out.now in
    let e = line.min-columns.ensures in
    let q = line.requires.raw_in.0.tags.levels.repeat in (
      omega (arith, length-take (p + n - p) (drop p f), length-drop p f, inside line),
      omega (arith, e, q.some_columns, line.requires.tags_value.1),
      omega (arith, e, q.columns),
      omega (arith, e, line.requires.tags_value.2.inside, ap (λ (m : ℕ). min m n) (repeat_columns_are f a.order a.raw.tags)),
    )

pub returns : goal.returns
returns c =
    let a = c.args in
    let p = c.line_of-line.result.place in
    let n = length a.out.now in
    row_found a.file.now a.order a.raw c.requires.raw_in.0 (tabled_has a.raw.tags c.requires.tags_value.0) a.row.0 a.column.0
    c.requires.raw_in.1 _ c.line_of-line.ensures
    (λ i. let b = c.type_inv.file i in omega (arith, b)) a.tables.now a.first
    c.min-columns.result (p + n - p) a.out.now _ c.requires.tags_value.2 c.requires.raw_in.3 c.min-columns.ensures
    (omega arith) (search rules) c.look_up_row.ensures
