use mathlib.Core.Path.{◌≡◌, sym, ap, subst}
use native.Mathlib.Omega.{arith}
use Rattle.rawtags.specs.Raw.{active_rows, active_columns}
use Rattle.opcodes.specs.declared.grid.Size.{Size}
use Rattle.rows.specs.Facts.Part.{AllInUnit}
use Rattle.rows.proofs.Through.{part_units, part_developed}
use Rattle.develop.proofs.Windows.{viewed_sized, viewed_list, viewed_read, viewed_part, samples_is}
use Rattle.develop.proofs.tabled.table_part.Goals as goal
use Rattle.develop.proofs.tabled.table_part.Goals.{Start}

pub table_row-requires : goal.table_row-requires
table_row-requires c =
    let v = c.args.view in
    let q = c.requires.viewed.0 in
    let r : v.size.rows ≡ active_rows v.picture.raw.tags.area = ap (λ (z : Size). z.rows) q.size in
    let l : v.size.columns ≡ active_columns v.picture.raw.tags.area = ap (λ (z : Size). z.columns) q.size in record {
      raw_in = (q.picture_in.raw, omega (arith, c.requires.viewed.1), omega (arith, c.requires.viewed.2), c.requires.viewed.3);
      tags_value = c.requires.tags_value;
    }

pub list_row-requires : goal.list_row-requires
list_row-requires c =
    let a = c.args in
    let f = a.file.now in
    let v = a.view in
    let q = c.requires.viewed.0 in
    let z = viewed_sized f v q in record {
      list_read = (viewed_list f v q, z, omega (arith, c.requires.viewed.2, z.columns));
      all_in_unit = subst AllInUnit (sym c.table_row.ensures)
          (part_units f v.picture.order v.picture.raw.tags a.row.0 a.column.0 a.out.now);
    }

pub returns : goal.returns
returns c q =
    let table-row = c.table_row in
    let a = c.args in
    let f = a.file.now in
    let v = a.view in
    let os = q.file.opcodes in
    viewed_part f v q os (viewed_read f v q) a.row.0 a.column.0 a.out.now _
    (part_developed f v.picture.order v.picture.raw.tags os a.row.0 a.column.0 v.size.samples a.out.now _ _
    (samples_is f v q) table-row.ensures (c.list_row.ensures os (viewed_read f v q)))
