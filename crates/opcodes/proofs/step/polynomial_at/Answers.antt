use Rattle.opcodes.specs.Step.{polynomial_of}
use Rattle.opcodes.proofs.step.polynomial_at.Goals as goal

pub returns : goal.returns
unfolding polynomial_of
returns c =
    let coefficient = c.coefficient-a0 in
    let coefficient2 = c.coefficient-a1 in
    let coefficient3 = c.coefficient-a2 in
    let coefficient4 = c.coefficient-a3 in
    let coefficient5 = c.coefficient-a4 in
    let coefficient6 = c.coefficient-a5 in
    rw (
      coefficient.ensures,
      coefficient2.ensures,
      coefficient3.ensures,
      coefficient4.ensures,
      coefficient5.ensures,
      coefficient6.ensures,
      c.coefficient-a6.ensures,
      c.coefficient-a7.ensures,
      c.coefficient-a8.ensures,
    )
