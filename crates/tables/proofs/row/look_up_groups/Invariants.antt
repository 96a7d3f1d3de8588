use mathlib.Core.Path.{◌≡◌}
use Prim.Native.Nat.{◌%◌}
use lib.Ieee.{nan}
use Rattle.samples.specs.Facts.Line.{Filled}
use Rattle.tables.specs.Facts.RowTables.{found_along}
use Rattle.tables.proofs.row.look_up_groups.Given as goal

abbrev pub invariant-loop-at : goal.invariant-loop-at
invariant-loop-at l =
    (l.at % l.columns ≡ 0)
    × (Filled nan (found_along l.tables l.first l.columns l.bytes) l.from l.initial.out
    → Filled nan (found_along l.tables l.first l.columns l.bytes) l.at l.out)
