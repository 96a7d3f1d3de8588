use mathlib.Core.Path.{◌≡◌}
use Prim.Native.Nat.{ℕ, ◌<◌}
use lib.IntN.{ℤ}
use lib.Ieee.{nan}
use lib.ListN.{length}
use Rattle.levels.specs.Level.{difference_of, level_of, scaled_of}
use Rattle.samples.specs.Facts.Line.{Filled, Levelled}
use Rattle.samples.proofs.line.scaled_with.Given as goal

abbrev pub invariant-loop-i : goal.invariant-loop-i
invariant-loop-i g l =
    (n : ℕ → ℕ) → ((k v : ℕ) → k < length l.out → goal.F-post g l.number k v → v ≡ n k) → (black span : ℕ → ℤ)
    → Levelled black span l.blacks l.inverses l.down (length l.out)
    → Filled nan (λ (k : ℕ). scaled_of (level_of (difference_of (n k) (black k)) (span k))) l.i l.out
