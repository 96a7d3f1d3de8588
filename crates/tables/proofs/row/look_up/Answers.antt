use native.Mathlib.Omega.{arith}
use Rattle.tables.proofs.row.look_up.Goals as goal

pub overflow_cast-s : goal.overflow_cast-s
overflow_cast-s c =
    omega (arith, c.type_inv.bytes c.args.i)

pub offset_bounds-table-s : goal.offset_bounds-table-s
offset_bounds-table-s c =
    omega (arith, c.type_inv.bytes c.args.i)

pub bounds-table-s : goal.bounds-table-s
bounds-table-s c =
    omega (arith, c.type_inv.bytes c.args.i)
