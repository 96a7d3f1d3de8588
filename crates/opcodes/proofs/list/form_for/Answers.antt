use Rattle.std.proofs.Common.{rules}
use Rattle.reading.specs.Reading.{pick}
use Rattle.opcodes.specs.OpcodeList.{form_of}
use Rattle.opcodes.proofs.list.form_for.Goals as goal

pub returns-in-MapTable : goal.returns-in-MapTable
unfolding form_of pick
returns-in-MapTable c = search rules

pub returns-in-MapPolynomial : goal.returns-in-MapPolynomial
unfolding form_of pick
returns-in-MapPolynomial c = search rules

pub returns-in-DeltaPerRow : goal.returns-in-DeltaPerRow
unfolding form_of pick
returns-in-DeltaPerRow c = search rules

pub returns-in_default : goal.returns-in_default
unfolding form_of pick
returns-in_default c = search rules
