use mathlib.Core.List.{[]}
use Prim.Native.Nat.{ℕ, ◌+◌, ◌/◌, ◌%◌, ◌<◌}
use lib.ListN.{get_or}
use Rattle.reading.specs.Reading.{run}
use Rattle.raw.specs.Stored.{levels_reading}
use Rattle.tables.specs.Tables.{CellTable}
use Rattle.tables.proofs.fill.fill_tables.Given as goal

abbrev pub invariant-loop-i : goal.invariant-loop-i
invariant-loop-i l =
    let s = l.source in
    (k : ℕ) → k < l.i → CellTable (run s.file.now (levels_reading s.order s.raw.tags)) (l.r + k / l.columns) (l.c + k % l.columns) (get_or l.tables k [])
