use mathlib.Core.Path.{◌≡◌}
use native.Mathlib.Omega.{arith}
use Rattle.raw.proofs.sample.sample_at.Goals as goal

pub returns-then-bytes-eq1 : goal.returns-then-bytes-eq1
returns-then-bytes-eq1 c =
    rw c.if-bytes-eq1.true c.byte.ensures.value

pub returns-else-bytes-eq1 : goal.returns-else-bytes-eq1
returns-else-bytes-eq1 c =
    let a = c.args in
    let pre = c.requires in
    let e : a.bytes ≡ 2 = omega (arith, pre.1, pre.2) in rw e c.short.ensures
