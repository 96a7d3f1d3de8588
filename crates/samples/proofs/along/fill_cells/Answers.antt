use Prim.Native.Nat.{◌+◌, ◌*◌, ◌≤◌}
use native.Mathlib.Omega.{arith}
use borrow.Author.Rules.{rules}
use lib.Ieee.{nan}
use lib.ListN.{length}
use Rattle.levels.specs.Facts.Reciprocal.{of_parts}
use Rattle.reading.specs.Reading.{run}
use Rattle.raw.specs.Stored.{levels_reading}
use Rattle.samples.specs.Facts.Along.{cell_along}
use Rattle.samples.proofs.Lines.{rows_more}
use mathlib.Core.Path.{refl}
use Rattle.samples.proofs.along.fill_cells.Goals as goal

pub loop-r-preserved : goal.loop-r-preserved
loop-r-preserved c =
    let l = c.loop-r in
    let t = c.args.source.tags in
    let q = c.args.q in
    let v = run c.args.source.file.now (levels_reading c.args.source.order t) in
    let i : l.r * q + q ≤ length l.out = search rules in
    rows_more nan (λ r k. of_parts (cell_along v t.frame.samples r c.args.column.0 k)) q l.r (l.r * q) l.out c.cells_row.new.out refl i
    (search rules) l.invariant (λ k b. c.cells_row.ensures k (search rules))

pub returns : goal.returns
returns c s k h b =
    c.loop-r.invariant s k (omega arith) b
