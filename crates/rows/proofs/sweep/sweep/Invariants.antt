use mathlib.Core.Path.{◌≡◌}
use Prim.Native.Nat.{ℕ, ◌+◌, ◌-◌, ◌*◌, ◌/◌, ◌≤◌}
use lib.Ieee.{Float, nan}
use lib.ListN.{get_or}
use Rattle.rows.proofs.Sweeps.{Swept}
use Rattle.rows.proofs.sweep.sweep.Given as goal

abbrev pub invariant-loop-n : goal.invariant-loop-n
invariant-loop-n g l =
    ((k : ℕ) → l.first + l.n * l.pitch ≤ k → get_or l.out k nan ≡ get_or l.initial.out k nan)
    × ((v : ℕ → Float → Float) → ((n : ℕ) (x y : Float) → goal.F-post g l.f n x y → y ≡ v n x)
    → Swept l.first l.fn.places.end l.pitch (λ k x. v ((k - l.first) / l.pitch) x) (l.first + l.n * l.pitch) l.initial.out l.out)
