use Prim.Native.Nat.{ℕ, ◌-◌, ◌*◌, ◌/◌, ◌%◌, ◌≤◌}
use lib.IntN.{nat_abs}
use Rattle.reading.specs.Reading.{run}
use Rattle.levels.specs.Facts.Residues.{residue_black}
use Rattle.levels.proofs.Maxima.{Folded}
use Rattle.raw.specs.Stored.{levels_reading}
use Rattle.raw.proofs.greatest.greatest_by_residues.Given as goal

-- The invariant: the greatest of the pairs before k, and the pairs from k on, make the greatest of all.
abbrev pub invariant-loop-k : goal.invariant-loop-k
invariant-loop-k l =
    let s = l.source in
    Folded (λ (k : ℕ). residue_black (run s.file.now (levels_reading s.order s.tags)) l.deltas.columns l.deltas.rows l.plane (k / l.across) (k % l.across))
    (l.down * l.across) l.k l.best
    × (nat_abs l.best ≤ 50330880)
