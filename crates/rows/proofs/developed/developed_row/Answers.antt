use mathlib.Core.Path.{sym, subst}
use native.Mathlib.Omega.{arith}
use Rattle.rows.specs.Facts.Part.{AllInUnit}
use Rattle.rows.proofs.Through.{part_units, part_developed}
use Rattle.rows.proofs.developed.developed_row.Goals as goal
use Rattle.rows.proofs.developed.developed_row.Goals.{Start}

pub scaled_row-requires : goal.scaled_row-requires
scaled_row-requires c =
    record {
      active_in = (c.requires.active_in.0, c.requires.active_in.1, c.requires.wide_in.0);
      along_in = (c.requires.wide_in.1, c.requires.wide_in.2);
    }

pub list_row-requires : goal.list_row-requires
list_row-requires c =
    let scaled-row = c.scaled_row in
    let p = c.args.source in
    let a = p.within.tags.area in record {
      list_read = (c.requires.list_read.0, c.requires.list_read.1, omega (arith, c.requires.active_in.1, a.right, p.within.tags.frame.columns));
      all_in_unit = subst AllInUnit (sym scaled-row.ensures)
          (part_units c.args.source.file.now p.order p.raw.tags c.args.row.0 c.args.column.0 c.args.out.now);
    }

pub returns : goal.returns
returns c os e =
    let scaled-row = c.scaled_row in
    let p = c.args.source in
    part_developed c.args.source.file.now p.order p.raw.tags os c.args.row.0 c.args.column.0 c.args.size.samples
    c.args.out.now _ _ c.requires.list_read.2 scaled-row.ensures (c.list_row.ensures os e)
