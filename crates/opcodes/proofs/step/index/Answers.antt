use Rattle.std.proofs.Common.{arith}
use lib.Ieee.{of_bits}
use Rattle.opcodes.specs.Step.{index_of, sum_of}
use Rattle.opcodes.specs.TableIndex.{IndexRange}
use Rattle.opcodes.proofs.IndexSum.{tested_range}
use Rattle.opcodes.proofs.IndexBits.{index_in_bits, index_most, index_below, index_above}
use Rattle.opcodes.proofs.step.index.Goals as goal
use Rattle.opcodes.proofs.step.index.Goals.{After-index_from_bits}

pub index_from_bits-requires : goal.index_from_bits-requires
unfolding of_bits
index_from_bits-requires c =
    tested_range c.args.x c.if-v.true c.if-v-2.true

in_range : (c : After-index_from_bits) → IndexRange (sum_of c.args.x)
unfolding of_bits
in_range c = tested_range _ c.if-v.true c.if-v-2.true

pub overflow_cast-result : goal.overflow_cast-result
unfolding of_bits
overflow_cast-result c =
    let most = index_most _ (in_range (goal.at.overflow_cast-result c).After-index_from_bits) in
    record { fits = omega (arith, c.index_from_bits.ensures.0, most) }

pub returns-then-v-2 : goal.returns-then-v-2
unfolding of_bits
returns-then-v-2 c =
    let most = index_most _ (in_range (goal.at.returns-then-v-2 c).After-index_from_bits) in
    omega (arith, c.index_from_bits.ensures.0, index_in_bits _ (in_range (goal.at.returns-then-v-2 c).After-index_from_bits), most)

pub returns-then-v : goal.returns-then-v
unfolding index_of of_bits
returns-then-v c = let w =
    index_above _ c.if-v.true c.if-v-2.false in omega (arith, w)

pub returns : goal.returns
unfolding index_of of_bits
returns c = let w =
    index_below _ c.if-v.false in omega (arith, w)
