use Rattle.std.proofs.Common.{sym, subst, arith}
use Rattle.opcodes.specs.TableIndex.{WholePart}
use Rattle.opcodes.proofs.IndexBits.{index_shifted, index_whole, exponent_most, exponent_least}
use Rattle.opcodes.proofs.step.index_from_bits.Goals as goal
use Rattle.opcodes.proofs.step.index_from_bits.Goals.{Start}

pub overflow_sub-result : goal.overflow_sub-result
overflow_sub-result c =
    omega (arith, c.exponent_field-exponent.ensures, exponent_most c.args.v c.requires)

pub overflow_shr-result : goal.overflow_shr-result
overflow_shr-result c =
    omega (arith, c.exponent_field-exponent.ensures, exponent_least c.args.v c.requires)

pub returns : goal.returns
returns c =
    let v = c.args.v in
    let is = index_shifted v c.requires _ _ c.exponent_field-exponent.ensures c.fraction_field-digits.ensures in
    (is, subst (WholePart v) (sym is) (index_whole v c.requires))
