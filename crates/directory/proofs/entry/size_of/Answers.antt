use native.Mathlib.Omega.{arith}
use Rattle.directory.proofs.Entries.{size_listed, size_known, size_unknown}
use Rattle.directory.proofs.entry.size_of.Goals as goal

pub overflow_cast-result : goal.overflow_cast-result
overflow_cast-result c =
    omega (arith, size_listed c.args.t)

pub returns-then-t-types : goal.returns-then-t-types
returns-then-t-types c =
    (size_known _ _ c.if-t-types.true, size_listed c.args.t)

pub returns-else-t-types : goal.returns-else-t-types
returns-else-t-types c =
    (size_unknown _ _ c.if-t-types.false, omega arith)
