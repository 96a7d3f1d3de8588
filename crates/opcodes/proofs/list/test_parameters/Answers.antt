use Rattle.std.proofs.Common.{rules}
use Rattle.reading.specs.Reading.{pick}
use Rattle.opcodes.specs.OpcodeList.{opcode_fault}
use Rattle.opcodes.proofs.list.test_parameters.Goals as goal

pub returns-in-GainMap : goal.returns-in-GainMap
unfolding opcode_fault pick
returns-in-GainMap c = search rules

pub returns-in_default : goal.returns-in_default
unfolding opcode_fault pick
returns-in_default c = search rules
