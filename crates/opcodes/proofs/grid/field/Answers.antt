use Rattle.std.proofs.Common.{rules}
use Rattle.opcodes.proofs.grid.field.Goals as goal

pub returns : goal.returns
returns c =
    (c.long.ensures, search rules)
