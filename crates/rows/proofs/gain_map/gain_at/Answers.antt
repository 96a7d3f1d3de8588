use mathlib.Core.Path.{sym, ◌∙◌}
use native.Mathlib.Omega.{arith}
use Rattle.opcodes.proofs.StepLaws.{on_in}
use Rattle.rows.proofs.Gains.{map_grid, at_on, at_off, map_in, enough, grid_in}
use Rattle.rows.proofs.gain_map.gain_at.Goals as goal
use Rattle.rows.proofs.gain_map.gain_at.Goals.{Start}

pub grid_at-g-requires : goal.grid_at-g-requires
grid_at-g-requires c =
    omega (arith, enough c.args.size c.args.ps.now c.requires.0)

pub on-requires : goal.on-requires
on-requires c =
    let a = c.args in
    let g = grid_in a.size a.ps.now c.requires.0 c.grid_at-g.result c.grid_at-g.ensures.by_index in
    (g.row_pitch, g.column_pitch, c.grid_at-g.ensures.plane_bound.0, c.grid_at-g.ensures.plane_bound.1)

pub overflow_sub-plane : goal.overflow_sub-plane
overflow_sub-plane c =
    let grid-at = c.grid_at-g in
    let a = c.args in
    let t = sym c.on.ensures ∙ c.if-on.true in
    (on_in grid-at.result a.row.0 a.column.0 a.plane t).plane

pub gain_at-gain-requires : goal.gain_at-gain-requires
gain_at-gain-requires c =
    let a = c.args in
    let n = c.grid_at-g in
    let t = sym c.on.ensures ∙ c.if-on.true in
    let g = grid_in a.size a.ps.now c.requires.0 n.result n.ensures.by_index in
    let o = on_in n.result a.row.0 a.column.0 a.plane t in
    let z = c.requires.1 in (
      z.rows,
      z.columns,
      omega (arith, o.bottom, g.rows),
      omega (arith, o.right, g.columns),
    )

pub returns-then-on : goal.returns-then-on
returns-then-on c =
    let on = c.on in
    let if1 = c.if-on in
    let a = c.args in
    let n = c.grid_at-g in
    let e = map_grid a.size a.ps.now c.requires.0 n.result n.ensures.by_index in
    let t = sym on.ensures ∙ if1.true in
    let v = c.gain_at-gain in
    c.apply.ensures ∙ at_on a.size a.ps.now a.row.0 a.column.0 a.plane a.x n.result e t v.result v.ensures

pub returns-else-on : goal.returns-else-on
returns-else-on c =
    let a = c.args in
    let n = c.grid_at-g in
    let e = map_grid a.size a.ps.now c.requires.0 n.result n.ensures.by_index in
    at_off a.size a.ps.now a.row.0 a.column.0 a.plane a.x n.result e (sym c.on.ensures ∙ c.if-on.false)

pub invariant_of-gain_at : goal.invariant_of-gain_at
invariant_of-gain_at c = record { accepted = map_in c.args.size c.args.ps.now c.requires.0 }
