use Rattle.std.proofs.Common.{not, T, sym, ap, ◌∙◌, subst}
use lib.Ieee.{Float, binary64, of_bits, is_nan}
use Rattle.reading.specs.Real.{exponent_field, fraction_field}
use Rattle.levels.proofs.Unit.{clip_clip, clip_not_nan}
use Rattle.opcodes.specs.Step.{sum_of}
use Rattle.opcodes.specs.TableIndex.{IndexRange, index_from_bits}
use Rattle.opcodes.proofs.IndexSum.{sum_range}
use Rattle.opcodes.proofs.IndexBits.{index_number}
use Rattle.board.specs.Board.{bits}
use Rattle.board.proofs.index_numbers.Goals as goal
use Rattle.board.proofs.index_numbers.Goals.{After-bits_of, After-bits_of-b, After-clip-y}

in_range : (c : After-clip-y) → IndexRange (sum_of c.clip-y.result)
in_range c = subst (λ (x : Float). IndexRange (sum_of x)) (sym c.clip-y.ensures) (sum_range _ (clip_clip c.args.x))

pub index_from_bits-k-requires : goal.index_from_bits-k-requires
unfolding of_bits
index_from_bits-k-requires c =
    in_range (goal.at.index_from_bits-k-requires c).After-clip-y

pub bits_of-b-requires : goal.bits_of-b-requires
unfolding of_bits
bits_of-b-requires c =
    index_number _ (in_range (goal.at.bits_of-b-requires c).After-clip-y)

pub bits_of-requires : goal.bits_of-requires
bits_of-requires c =
    subst (λ (x : Float). T (not (is_nan x))) (sym c.clip-y.ensures) (clip_not_nan c.args.x)

pub returns : goal.returns
unfolding of_bits
returns c =
    let clipped = c.clip-y.ensures in
    let x-bits = c.bits_of.ensures ∙ ap bits clipped in
    let v-bits = c.bits_of-b.ensures ∙ ap (λ (y : Float). bits (sum_of y)) clipped in
    let fraction = c.fraction_field.ensures ∙ ap (fraction_field binary64) v-bits in
    let exponent = c.exponent_field.ensures ∙ ap (exponent_field binary64) v-bits in
    let k = c.index_from_bits-k.ensures.0 ∙ ap (λ (y : Float). index_from_bits (sum_of y)) clipped in
    rw (k, exponent, fraction, x-bits, v-bits)
