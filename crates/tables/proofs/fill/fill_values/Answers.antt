use native.Mathlib.Omega.{arith}
use Rattle.tables.proofs.fill.fill_values.Goals as goal

pub returns : goal.returns
returns c b span p q s h =
    c.loop-s.invariant b span p q s (omega (arith, h, c.loop-s-test.false))
