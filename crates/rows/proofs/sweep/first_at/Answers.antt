use Prim.Native.Nat.{◌+◌, ◌-◌, ◌*◌, ◌<◌}
use native.Mathlib.Omega.{arith}
use native.Mathlib.Nat.{mul-le-mul_left}
use Rattle.rows.specs.Facts.Sweep.{first_of}
use Rattle.rows.proofs.GridColumns.{skip_high}
use Rattle.rows.proofs.sweep.first_at.Goals as goal
use Rattle.rows.proofs.sweep.first_at.Goals.{After-skipped-skip}

few : (c : After-skipped-skip) →
    (c.args.left + c.skipped-skip.result * c.args.pitch - c.args.l) * c.args.n < 0x10_0000_0000
few c =
    let a = c.args in
    omega (
      arith,
      mul-le-mul_left (a.left + c.skipped-skip.result * a.pitch - a.l) c.requires.4,
      c.skipped-skip.ensures.1,
      c.requires,
    )

pub overflow_sub-result : goal.overflow_sub-result
overflow_sub-result c =
    let a = c.args in
    rw c.skipped-skip.ensures.0 (skip_high a.left a.pitch a.l c.requires.0)

pub overflow_mul-result-2 : goal.overflow_mul-result-2
overflow_mul-result-2 c =
    omega (arith, few (goal.at.overflow_mul-result-2 c).After-skipped-skip)

pub returns : goal.returns
unfolding first_of
returns c =
    (rw c.skipped-skip.ensures.0, few (goal.at.returns c).After-skipped-skip)
