use mathlib.Core.Path.{sym, ◌∙◌}
use native.Mathlib.Omega.{arith}
use mir.Syntax.{w64}
use mir.Val.{SFits}
use mir.Facts.{to_z-of_z}
use Rattle.levels.proofs.SignedOrder.{sum_same}
use Rattle.raw.proofs.TagFacts.{black_for_law}
use borrow.Author.Rules.{rules}
use Rattle.raw.proofs.sample.black_at.Goals as goal

pub cell_at-cell-requires : goal.cell_at-cell-requires
cell_at-cell-requires c =
    let pre = c.requires in
    pre.plane

pub delta_at-across-requires : goal.delta_at-across-requires
delta_at-across-requires c =
    let pre = c.requires in
    let q = c.args.source.within.levels.column_deltas in
    (q.inside, λ s. (q.sized s, omega (arith, q.enough s, pre.column)))

pub delta_at-down-requires : goal.delta_at-down-requires
delta_at-down-requires c =
    let pre = c.requires in
    let q = c.args.source.within.levels.row_deltas in
    (q.inside, λ s. (q.sized s, omega (arith, q.enough s, pre.row)))

pub returns : goal.returns
returns c =
    let a = c.args in
    let cell = c.cell_at-cell in
    let column = c.delta_at-across in
    let row = c.delta_at-down in
    let fb : SFits w64 c.black_sum.result = search rules in
    let fc : SFits w64 cell.result = search rules in
    let fd : SFits w64 column.result = search rules in
    let fr : SFits w64 row.result = search rules in
    let e = rw (to_z-of_z fc, to_z-of_z fd, to_z-of_z fr) at c.black_sum.ensures.value in
    let g = black_for_law a.source.file.now a.source.order a.source.tags a.row.0 a.column.0 a.plane in
    rw (to_z-of_z fb) record {
      value = e ∙ sum_same cell.ensures.value column.ensures.value row.ensures.value ∙ sym g;
      result_bound = c.black_sum.ensures.result_bound;
    }
