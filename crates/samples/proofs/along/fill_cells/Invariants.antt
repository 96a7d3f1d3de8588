use mathlib.Core.Path.{◌≡◌}
use Prim.Native.Nat.{ℕ, ◌+◌, ◌*◌, ◌<◌}
use lib.Ieee.{nan}
use lib.ListN.{get_or}
use Rattle.levels.specs.Facts.Reciprocal.{of_parts}
use Rattle.reading.specs.Reading.{run}
use Rattle.raw.specs.Stored.{levels_reading}
use Rattle.samples.specs.Facts.Along.{cell_along}
use Rattle.samples.proofs.along.fill_cells.Given as goal

abbrev pub invariant-loop-r : goal.invariant-loop-r
invariant-loop-r l =
    (s k : ℕ) → s < l.r → k < l.q → get_or l.out (s * l.q + k) nan ≡ of_parts
    (cell_along (run l.source.file.now (levels_reading l.source.order l.source.tags)) l.source.tags.frame.samples s l.column.0 k)
