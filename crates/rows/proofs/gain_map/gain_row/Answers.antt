use mathlib.Core.Path.{sym, ◌∙◌, subst}
use native.Mathlib.Omega.{arith}
use Rattle.opcodes.specs.Facts.Bracket.{AxisIn, BracketOf, BracketIn}
use Rattle.opcodes.specs.declared.gain_map.Axis.{Axis}
use Rattle.rows.proofs.Sweeps.{every_told}
use Rattle.rows.proofs.Gains.{map_grid, row_on, row_off, map_in, enough, grid_in}
use Rattle.rows.proofs.gain_map.gain_row.Goals as goal
use Rattle.rows.proofs.gain_map.gain_row.Goals.{After-located-down, Start}

pub grid_at-g-requires : goal.grid_at-g-requires
grid_at-g-requires c =
    omega (arith, enough c.args.size c.args.ps.now c.requires.0)

pub every-requires : goal.every-requires
every-requires c =
    (grid_in c.args.size c.args.ps.now c.requires.0 c.grid_at-g.result c.grid_at-g.ensures.by_index).row_pitch

pub down_axis-requires : goal.down_axis-requires
down_axis-requires c =
    enough c.args.size c.args.ps.now c.requires.0

-- the row is one of the active area
pub located-down-requires : goal.located-down-requires
located-down-requires c =
    let a = c.args in
    let n = c.grid_at-g in
    let g = grid_in a.size a.ps.now c.requires.0 n.result n.ensures.by_index in
    let t = every_told _ _ _ a.row.0 (sym c.every.ensures ∙ c.if-every.true) in
    let m = map_in a.size a.ps.now c.requires.0 in
    (subst AxisIn (sym c.down_axis.ensures) m.down, omega (arith, t.1, g.rows), c.requires.1.rows)

pub gain_planes-requires : goal.gain_planes-requires
gain_planes-requires c =
    let a = c.args in
    let n = c.grid_at-g in
    let d = c.located-down in
    let among = subst (λ (x : Axis). BracketIn x.points d.result) c.down_axis.ensures d.ensures.1 in
    let g = grid_in a.size a.ps.now c.requires.0 n.result n.ensures.by_index in record {
      sized_in = (c.requires.1, g, n.ensures.plane_bound.3, c.requires.2);
      gain_map_in = among;
    }

pub returns-then-every : goal.returns-then-every
returns-then-every c =
    let a = c.args in
    let n = c.grid_at-g in
    let e = map_grid a.size a.ps.now c.requires.0 n.result n.ensures.by_index in
    let t = sym c.every.ensures ∙ c.if-every.true in
    let row = subst (λ (x : Axis). BracketOf x a.size.rows a.row.0 c.located-down.result) c.down_axis.ensures
    c.located-down.ensures.0 in
    c.gain_planes.ensures
    ∙ row_on a.size a.ps.now a.row.0 a.column.0 a.size.samples c.located-down.result row a.out.now n.result e t

pub returns-else-every : goal.returns-else-every
returns-else-every c =
    let a = c.args in
    let n = c.grid_at-g in
    let e = map_grid a.size a.ps.now c.requires.0 n.result n.ensures.by_index in
    row_off a.size a.ps.now a.row.0 a.column.0 a.size.samples a.out.now n.result e
    (sym c.every.ensures ∙ c.if-every.false)

pub invariant_of-gain_planes : goal.invariant_of-gain_planes
invariant_of-gain_planes c = record { accepted = map_in c.args.size c.args.ps.now c.requires.0 }
