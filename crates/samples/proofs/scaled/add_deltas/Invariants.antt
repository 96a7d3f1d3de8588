use Prim.Native.Nat.{ℕ, ◌+◌}
use lib.IntN.{pos}
use lib.Ieee.{nan, binary64, add}
use lib.ListN.{get_or}
use Rattle.levels.specs.Facts.Reciprocal.{of_parts}
use Rattle.samples.specs.Facts.Line.{Filled}
use Rattle.samples.proofs.scaled.add_deltas.Given as goal

abbrev pub invariant-loop-i : goal.invariant-loop-i
invariant-loop-i l =
    Filled nan (λ (k : ℕ). add binary64 (get_or l.cells k nan) (of_parts (get_or l.deltas (l.at + k) (pos 0)))) l.i l.out
