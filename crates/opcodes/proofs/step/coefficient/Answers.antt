use Rattle.std.proofs.Common.{sym, ap, ◌∙◌}
use lib.ListN.{get_or-eq_default}
use lib.Ieee.{of_bits, neg}
use Rattle.levels.proofs.Runs.{run_at, length_run}
use Rattle.opcodes.specs.Step.{value_of, double_in, minus_zero, coefficients_of}
use Rattle.opcodes.proofs.step.coefficient.Goals as goal

pub returns-then-k-n : goal.returns-then-k-n
unfolding neg
returns-then-k-n c =
    let a = c.args in
    let t = c.if-k-n.true in
    c.value.ensures ∙ ap value_of c.double_at.ensures
    ∙ sym (run_at (double_in a.file.now) 8 a.at a.n a.k minus_zero t)

pub returns-else-k-n : goal.returns-else-k-n
unfolding of_bits neg
returns-else-k-n c =
    let a = c.args in
    let f = a.file.now in
    sym (get_or-eq_default (coefficients_of f a.at a.n) minus_zero (rw (length_run (double_in f) 8 a.at a.n) c.if-k-n.false))
