use mathlib.Core.Path.{sym}
use Rattle.rows.proofs.Parts.{row_step_in, step_held, swept_is, swept_polynomial}
use Rattle.rows.proofs.opcode.sweep_row.Goals as goal
use Rattle.rows.proofs.opcode.sweep_row.Goals.{Start}

pub low-requires : goal.low-requires
low-requires c =
    c.requires.part_in.0.inside

pub sweep_cubic-requires : goal.sweep_cubic-requires
sweep_cubic-requires c =
    let pre = c.requires in
    let q = c.low.ensures c.if-low.true in record {
      places_in = pre.places_in.0;
      at_in_bounds = (pre.part_in.0.coefficients q.0, q.1, pre.part_in.1);
    }

pub step_for-requires : goal.step_for-requires
step_for-requires c =
    let a = c.args in
    let pre = c.requires in
    (row_step_in a.file.now a.at a.id a.i pre.places_in.1 pre.fact.0 pre.fact.1 pre.part_in.0, pre.places_in.1)

pub sweep_step-requires : goal.sweep_step-requires
sweep_step-requires c =
    let a = c.args in record {
      places_in = c.requires.places_in.0;
      step_in = (
        step_held a.file.now a.at a.id a.i 0 _ c.requires.places_in.1 c.requires.part_in.0 c.step_for.ensures,
        c.requires.part_in.1,
      );
    }

pub returns-then-low : goal.returns-then-low
returns-then-low c =
    let a = c.args in
    let low = c.low in
    let if1 = c.if-low in
    let q = low.ensures if1.true in
    swept_polynomial a.file.now a.at a.id a.i a.places.first a.places.end a.places.pitch a.out.now _ q.0
    c.sweep_cubic.ensures

pub returns-else-low : goal.returns-else-low
returns-else-low c =
    let a = c.args in
    let step-for = c.step_for in
    swept_is _ _ a.file.now a.places.first a.places.end a.places.pitch a.out.now _ (sym step-for.ensures)
    c.sweep_step.ensures
