use Prim.Native.Nat.{ℕ, ◌+◌, ◌/◌}
use lib.IntN.{pos}
use lib.ListN.{get_or}
use Rattle.reading.specs.Reading.{run}
use Rattle.levels.proofs.Fills.{Filled}
use Rattle.levels.specs.declared.black.BlackKind.TheVariants as kind
use Rattle.raw.specs.Stored.{blacks_reading}
use Rattle.samples.proofs.along.fill_deltas.Given as goal

abbrev pub invariant-loop-i : goal.invariant-loop-i
invariant-loop-i l =
    let s = l.source in
    Filled (λ (k : ℕ). get_or (run s.file.now (blacks_reading s.order kind.SignedRational l.deltas)) (l.l + k / l.samples) (pos 0)) l.i l.initial.out l.out
