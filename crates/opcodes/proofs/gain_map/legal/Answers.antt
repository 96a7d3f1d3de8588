use Rattle.std.proofs.Common.{rules}
use Rattle.opcodes.specs.GainMap.{gain_map_legal}
use Rattle.opcodes.proofs.gain_map.legal.Goals as goal

pub returns-then-axis_legal-2 : goal.returns-then-axis_legal-2
unfolding gain_map_legal
returns-then-axis_legal-2 c = search rules

pub returns-else-axis_legal-2 : goal.returns-else-axis_legal-2
unfolding gain_map_legal
returns-else-axis_legal-2 c = search rules
