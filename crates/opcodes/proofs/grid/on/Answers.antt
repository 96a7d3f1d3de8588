use Rattle.std.proofs.Common.{rules}
use Rattle.opcodes.specs.Grid.{on_of}
use Rattle.opcodes.proofs.grid.on.Goals as goal

pub returns-then-grid-plane : goal.returns-then-grid-plane
unfolding on_of
returns-then-grid-plane c = search rules

pub returns-else-grid-plane : goal.returns-else-grid-plane
unfolding on_of
returns-else-grid-plane c = search rules
