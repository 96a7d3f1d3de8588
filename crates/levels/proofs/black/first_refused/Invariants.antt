use mathlib.Core.Path.{◌≡◌}
use Prim.Native.Nat.{◌+◌, ◌-◌, ◌*◌}
use Rattle.levels.specs.Run.{run_of}
use Rattle.levels.specs.Black.{black_at, first_refused}
use Rattle.levels.proofs.black.first_refused.Given as goal

-- The invariant: the first refused of all is the first refused of what is left of the run.
abbrev pub invariant-loop : goal.invariant-loop
invariant-loop l =
    (l.p ≡ l.at + l.step * l.counter)
    × (first_refused (run_of (black_at l.kind l.order l.s) l.step l.p (l.count - l.counter))
    ≡ first_refused (run_of (black_at l.kind l.order l.s) l.step l.at l.count))
