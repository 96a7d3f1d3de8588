use Prim.Native.Nat.{ℕ}
use lib.IntN.{ℤ, pos, ◌+ℤ◌}
use lib.Ieee.{nan}
use lib.ListN.{length, get_or}
use Rattle.samples.specs.Facts.Line.{Filled, line_value, Celled, Repeating}
use Rattle.samples.proofs.Lines.{Same}
use Rattle.samples.proofs.scaled.scaled_pieces.Given as goal

abbrev pub invariant-loop-i : goal.invariant-loop-i
invariant-loop-i l =
    (cell span : ℕ → ℤ) (d : ℤ) → Celled cell span d l.cells l.inverses l.line.down (length l.cells) →
    (r : Repeating cell span (length l.cells) (length l.initial.out))
    → Same cell span (length l.cells) (length l.initial.out) r l.i
    × Filled nan (line_value l.file l.line (λ k. cell k +ℤ get_or l.deltas k (pos 0) +ℤ d) span) l.i l.out
