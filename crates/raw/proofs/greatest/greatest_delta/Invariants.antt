use Prim.Native.Nat.{ℕ, ◌+◌, ◌-◌, ◌*◌, ◌≤◌}
use lib.IntN.{pos, nat_abs}
use lib.ListN.{get_or}
use Rattle.reading.specs.Reading.{run}
use Rattle.levels.specs.declared.black.BlackKind.TheVariants as kind
use Rattle.levels.specs.Facts.Residues.{times_of}
use Rattle.levels.proofs.Maxima.{Folded}
use Rattle.raw.specs.Stored.{blacks_reading}
use Rattle.levels.specs.Facts.Black.{most_black}
use Rattle.raw.proofs.greatest.greatest_delta.Given as goal

-- The invariant: the greatest of the deltas before the k-th, and those from it on, make the greatest of all.
abbrev pub invariant-loop-k : goal.invariant-loop-k
invariant-loop-k l =
    Folded (λ (k : ℕ). get_or (run l.file (blacks_reading l.order kind.SignedRational l.deltas)) (l.first + l.step * k) (pos 0))
    (times_of l.n l.step l.first) l.k
    l.best
    × (nat_abs l.best ≤ most_black)
