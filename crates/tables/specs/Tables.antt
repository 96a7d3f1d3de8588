-- The scaled values of 8-bit mosaics by tables: "For each black cell, work out the scaled value of all 256 stored bytes once".
use Rattle.std.specs.Prelude.{◌≡◌, Bool, ◌&&◌, List, ℕ, ◌<◌, eqb, ℤ, Float, get_or}
use Rattle.std.specs.Float.{nan}
use Rattle.levels.specs.Level.{difference_of, level_of, scaled_of}
use Rattle.levels.specs.Levels.{Levels, cell_for, span_of}
use Rattle.levels.specs.Table.{through_of}
use Rattle.rawtags.specs.declared.Tags.{Tags}

-- "8-bit mosaics without row or column deltas": bytes, one sample to a pixel, and neither tag there
abbrev pub tabled : Tags → Bool
tabled t =
    eqb t.layout.bytes 1 && (eqb t.frame.samples 1 && (eqb t.levels.column_deltas.count 0 && eqb t.levels.row_deltas.count 0))

-- the scaled value of a stored sample under a black
abbrev pub scaled_under : Levels → ℤ → ℕ → Float
scaled_under v black stored = scaled_of (level_of (difference_of (through_of v.table stored) black) (span_of v 0))

-- "place s of a cell's table holds, in every bit, the scaled value of stored byte s under that cell's black": of the cell at an active
-- row and an active column
abbrev pub CellTable : Levels → ℕ → ℕ → List Float → Type 0
CellTable v r c table = (s : ℕ) → s < 256 → get_or table s nan ≡ scaled_under v (cell_for v r c 0) s
