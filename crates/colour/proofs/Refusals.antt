-- What the colour tags refuse: each detail is a tag's number.
-- Assumes nothing.
use mathlib.Core.Bool.{Bool}
use Prim.Native.Nat.{ℕ}
use Rattle.reading.specs.declared.number.Order.{Order}
use Rattle.reading.specs.declared.fraction.FractionKind.{FractionKind}
use Rattle.directory.specs.declared.Ifd.{Ifd}
use Rattle.directory.proofs.Refusals.{SmallDetail, SmallRefusals, smalls, values_small, not_carried_small}
use Rattle.colour.specs.Value.{legal_quotient, quotient_reading, triple_reading}
use Rattle.colour.specs.Tags.{matrix_reading, neutral_reading, colour_reading}

module _ (o : Order) (k : FractionKind) (tag : ℕ) (small : SmallDetail tag) (nonzero : Bool) where
  real_small : (at : ℕ) → SmallRefusals (quotient_reading o k tag nonzero at)
  unfolding quotient_reading legal_quotient
  real_small at = search smalls depth 8

  triple_small : (size at : ℕ) → SmallRefusals (triple_reading o k size tag nonzero at)
  unfolding triple_reading
  triple_small size at = search (smalls, real_small) depth 8

matrix_small : (d : Ifd) → SmallRefusals (matrix_reading d)
unfolding matrix_reading
matrix_small d = search (smalls, values_small, triple_small) depth 10

neutral_small : (d : Ifd) → SmallRefusals (neutral_reading d)
unfolding neutral_reading
neutral_small d = search (smalls, values_small, triple_small) depth 8

pub colour_small : (d : Ifd) → SmallRefusals (colour_reading d)
unfolding colour_reading
colour_small d = search (smalls, not_carried_small, matrix_small, neutral_small) depth 10
