use native.Mathlib.Nat.{le-div_iff_mul-le, div-mul-le_self}
use native.Mathlib.Omega.{arith}
use Rattle.develop.proofs.fill.columns_at_once.Goals as goal
use Rattle.develop.proofs.fill.columns_at_once.Goals.{Start}

pub returns-then-deltas-eq0 : goal.returns-then-deltas-eq0
returns-then-deltas-eq0 c =
    (c.requires.0, λ h. absurd (omega (arith, c.if-deltas-eq0.true)))

pub returns-else-deltas-eq0 : goal.returns-else-deltas-eq0
returns-else-deltas-eq0 c = (
  (le-div_iff_mul-le {k = c.args.view.size.samples} {x = 1} {y = 8192} c.requires.1).1 (omega (arith, c.requires.2)),
  λ h. div-mul-le_self 8192 c.args.view.size.samples,
)
