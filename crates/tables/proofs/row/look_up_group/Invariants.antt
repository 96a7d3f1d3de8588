use mathlib.Core.Path.{◌≡◌}
use mathlib.Core.List.{[]}
use Prim.Native.Nat.{ℕ, ◌+◌, ◌<◌}
use lib.Ieee.{Float, nan}
use lib.ListN.{get_or}
use Rattle.samples.specs.Facts.Line.{Filled}
use Rattle.tables.specs.Facts.RowTables.{found}
use Rattle.tables.proofs.row.look_up_group.Given as goal

abbrev pub invariant-loop-c : goal.invariant-loop-c
invariant-loop-c l =
    (x : ℕ → Float) → ((k : ℕ) → k < l.count → found (get_or l.tables (l.first + k) []) l.bytes (l.at + k) ≡ x (l.at + k))
    → Filled nan x l.at l.initial.out → Filled nan x (l.at + l.c) l.out
