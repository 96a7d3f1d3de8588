use Rattle.std.proofs.Common.{ap, ◌∙◌}
use Rattle.levels.specs.Clip.{clip_of}
use Rattle.opcodes.specs.Step.{horner_of, result_of, applied_of}
use Rattle.opcodes.proofs.step.apply.Goals as goal

pub returns-in-Add : goal.returns-in-Add
unfolding applied_of result_of horner_of
returns-in-Add c =
    rw c.in-Add.is c.clip.ensures

pub returns-in-Scale : goal.returns-in-Scale
unfolding applied_of result_of horner_of
returns-in-Scale c =
    rw c.in-Scale.is c.clip-in-Scale.ensures

pub returns-in-Polynomial : goal.returns-in-Polynomial
unfolding applied_of result_of horner_of
returns-in-Polynomial c =
    rw c.in-Polynomial.is c.clip-in-Polynomial.ensures

pub returns-in-Table : goal.returns-in-Table
unfolding applied_of result_of horner_of
returns-in-Table c =
    rw c.in-Table.is (c.clip-in-Table.ensures ∙ ap clip_of c.mapped.ensures)
