use mathlib.Core.Path.{◌≡◌}
use Prim.Native.Nat.{ℕ, ◌+◌, ◌<◌}
use lib.Ieee.{Float, nan}
use lib.ListN.{length, get_or}
use Rattle.samples.specs.Facts.Line.{Filled}
use Rattle.samples.proofs.along.repeated.Given as goal

abbrev pub invariant-loop-i : goal.invariant-loop-i
invariant-loop-i g l =
    (v : ℕ → Float) → ((k : ℕ) (x : Float) → k < l.period → goal.F-post g l.number k x → x ≡ v k) → Filled nan v l.i l.out

abbrev pub invariant-loop-i-2 : goal.invariant-loop-i-2
invariant-loop-i-2 g l =
    (v : ℕ → Float) → ((k : ℕ) (x : Float) → k < l.period → goal.F-post g l.number k x → x ≡ v k) → ((k : ℕ) → v (k + l.period) ≡ v k)
    → (k : ℕ) → k < l.i → k < length l.out → get_or l.out k nan ≡ v k
