use mathlib.Core.Path.{◌≡◌, ap, sym, subst, ◌∙◌}
use native.Mathlib.Omega.{arith}
use Rattle.reading.specs.Reading.{run}
use Rattle.reading.specs.declared.number.Order.{Order}
use Rattle.rawtags.specs.Raw.{active_rows, active_columns}
use Rattle.raw.specs.declared.front.Raw.{Raw}
use Rattle.opcodes.specs.declared.grid.Size.{Size}
use Rattle.opcodes.specs.OpcodeList.{list_reading}
use Rattle.rows.specs.Facts.ListPart.{ListRead, developed_part}
use Rattle.develop.proofs.Windows.{viewed_sized, viewed_list, viewed_read, viewed_part, samples_is}
use Rattle.develop.proofs.fill.developed_part.Goals as goal

pub developed_row-requires : goal.developed_row-requires
developed_row-requires c =
    let v = c.args.view in
    let f = c.args.source.file.now in
    let q = c.requires.viewed.0 in
    let e = sym c.requires.of_view.1 in
    let r : v.size.rows ≡ active_rows c.args.source.raw.tags.area =
    ap (λ (z : Size). z.rows) q.size ∙ ap (λ (z : Raw). active_rows z.tags.area) e in
    let l : v.size.columns ≡ active_columns c.args.source.raw.tags.area =
    ap (λ (z : Size). z.columns) q.size ∙ ap (λ (z : Raw). active_columns z.tags.area) e in record {
      active_in = (omega (arith, c.requires.viewed.1, r), omega (arith, c.requires.viewed.2, l));
      wide_in = (c.requires.viewed.3, c.requires.along_in.0, c.requires.along_in.1);
      list_read = (
        subst (λ (z : Raw). ListRead f v.size z.tags.list.place z.tags.list.count) e (viewed_list f v q),
        viewed_sized f v q,
        samples_is f v q ∙ ap (λ (z : Raw). z.tags.frame.samples) e,
      );
    }

pub returns : goal.returns
returns c q =
    let f = c.args.source.file.now in
    let v = c.args.view in
    let os = q.file.opcodes in
    let row = c.args.row.0 in
    let column = c.args.column.0 in
    let same = c.requires.of_view in
    viewed_part f v q os (viewed_read f v q) row column c.args.out.now _
    (c.developed_row.ensures os
    (viewed_read f v q ∙ ap (λ (z : Raw). run f (list_reading v.size z.tags.list.place z.tags.list.count)) (sym same.1))
    ∙ ap (λ (z : Order). developed_part f z c.args.source.raw.tags os row column c.args.out.now) same.0
    ∙ ap (λ (z : Raw). developed_part f v.picture.order z.tags os row column c.args.out.now) same.1)
