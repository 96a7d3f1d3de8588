use Rattle.std.proofs.Common.{rules}
use Rattle.reading.specs.Reading.{pick}
use Rattle.opcodes.specs.Facts.StepAt.{step_of}
use Rattle.opcodes.proofs.step_at.step_for.Goals as goal

pub returns-in-MapTable : goal.returns-in-MapTable
unfolding step_of pick
returns-in-MapTable c = search rules

pub returns-in-MapPolynomial : goal.returns-in-MapPolynomial
unfolding step_of pick
returns-in-MapPolynomial c = search rules

pub returns-in-DeltaPerRow : goal.returns-in-DeltaPerRow
unfolding step_of pick
returns-in-DeltaPerRow c = search rules

pub returns-in-DeltaPerColumn : goal.returns-in-DeltaPerColumn
unfolding step_of pick
returns-in-DeltaPerColumn c = search rules

pub returns-in-ScalePerRow : goal.returns-in-ScalePerRow
unfolding step_of pick
returns-in-ScalePerRow c = search rules

pub returns-in_default : goal.returns-in_default
unfolding step_of pick
returns-in_default c = search rules
