use Rattle.std.proofs.Common.{sym, ◌∙◌, arith}
use lib.Ieee.{of_bits}
use Rattle.opcodes.specs.Step.{sum_of}
use Rattle.opcodes.proofs.IndexSum.{sum_range}
use Rattle.opcodes.proofs.IndexBits.{index_in_bits, index_most}
use Rattle.opcodes.proofs.step.unit_index.Goals as goal
use Rattle.opcodes.proofs.step.unit_index.Goals.{Start}

pub index_from_bits-requires : goal.index_from_bits-requires
unfolding of_bits
index_from_bits-requires c =
    sum_range c.args.x c.requires

pub overflow_cast-result : goal.overflow_cast-result
unfolding of_bits
overflow_cast-result c =
    let most = index_most (sum_of c.args.x) (sum_range c.args.x c.requires) in
    record { fits = omega (arith, c.index_from_bits.ensures.0, most) }

pub returns : goal.returns
unfolding of_bits
returns c =
    c.index_from_bits.ensures.0 ∙ sym (index_in_bits c.args.x (sum_range c.args.x c.requires))
