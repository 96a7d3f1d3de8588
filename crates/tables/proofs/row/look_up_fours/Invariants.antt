use Prim.Native.Nat.{ℕ, ◌*◌}
use lib.Ieee.{Float, nan}
use Rattle.samples.specs.Facts.Line.{Filled}
use Rattle.tables.specs.Facts.RowTables.{FourFound, WordIs}
use Rattle.tables.proofs.row.look_up_fours.Given as goal

abbrev pub invariant-loop-j : goal.invariant-loop-j
invariant-loop-j l =
    WordIs l.word l.bytes (4 * l.j)
    × ((x : ℕ → Float) → ((k : ℕ) → FourFound x l.first l.second l.third l.fourth l.bytes (4 * k)) → Filled nan x (4 * l.j) l.out)
