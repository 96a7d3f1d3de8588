use native.Mathlib.Omega.{arith}
use Rattle.tables.proofs.row.look_up_next.Goals as goal

pub returns-then-columns-left : goal.returns-then-columns-left
returns-then-columns-left c x f w k h =
    c.look_up_group.ensures x f w k (omega (arith, h))

pub returns-else-columns-left : goal.returns-else-columns-left
returns-else-columns-left c x f w k h =
    c.look_up_group-else-columns-left.ensures x (λ m n. f m (omega (arith, n))) w k (omega (arith, h))
