use Prim.Native.Nat.{ℕ}
use lib.IntN.{ℤ}
use lib.Ieee.{nan}
use Rattle.levels.specs.Level.{difference_of, level_of, scaled_of}
use Rattle.levels.specs.Facts.Reciprocal.{BlackIs, InverseIs}
use Rattle.levels.specs.Table.{table_of, through_of}
use Rattle.samples.specs.Facts.Line.{Filled}
use Rattle.tables.proofs.fill.fill_values.Given as goal

abbrev pub invariant-loop-s : goal.invariant-loop-s
invariant-loop-s l =
    (b span : ℤ) → BlackIs b l.black → InverseIs span l.inverse → Filled nan
    (λ (k : ℕ). scaled_of (level_of (difference_of (through_of (table_of l.order l.file l.entries.place l.entries.count) k) b) span)) l.s l.values
