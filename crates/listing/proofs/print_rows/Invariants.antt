use mathlib.Core.Path.{◌≡◌}
use Prim.Native.Nat.{◌-◌}
use lib.ListN.{length}
use Rattle.listing.specs.Facts.Body.{rows_from}
use Rattle.listing.specs.Pieces.{Remains}
use Rattle.listing.proofs.Known.{Given}
use Rattle.listing.proofs.print_rows.Given as goal

-- behind the bytes that are written, the rows from `top` on are to come
abbrev pub invariant-loop-top : goal.invariant-loop-top
invariant-loop-top g l =
    (length l.text ≡ length l.initial.text) × (length l.values ≡ length l.initial.values) × Remains l.file l.written (rows_from l.file l.top)
    × Given (g.W.Write.contents l.initial.out) (g.W.Write.contents l.out) (rows_from l.file 0) (rows_from l.file l.top)

abbrev pub decreases-loop-top : goal.decreases-loop-top
decreases-loop-top g l = l.rows - l.top
