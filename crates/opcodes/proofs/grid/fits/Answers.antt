use Rattle.std.proofs.Common.{rules}
use Rattle.opcodes.specs.Grid.{fits_of}
use Rattle.opcodes.proofs.grid.fits.Goals as goal

pub returns-then-inside-2 : goal.returns-then-inside-2
unfolding fits_of
returns-then-inside-2 c = search rules

pub returns-else-inside-2 : goal.returns-else-inside-2
unfolding fits_of
returns-else-inside-2 c = search rules
