use Prim.Native.Nat.{◌-◌}
use lib.ListN.{replicate}
use lib.IntN.{pos}
use Rattle.reading.specs.Reading.{run}
use Rattle.levels.specs.declared.black.BlackKind.TheVariants as kind
use Rattle.levels.specs.Facts.Residues.{greatest_delta}
use Rattle.levels.proofs.Fills.{Filled}
use Rattle.raw.specs.Stored.{blacks_reading}
use Rattle.raw.proofs.greatest.by_residue.Given as goal

-- The invariant: the greatest deltas of the residues below i are in their places.
abbrev pub invariant-loop-i : goal.invariant-loop-i
invariant-loop-i l =
    Filled (greatest_delta (run l.file (blacks_reading l.order kind.SignedRational l.deltas)) l.n l.step) l.i (replicate 8 (pos 0)) l.found
