use mathlib.Core.Path.{ap, ◌∙◌}
use Prim.Native.Nat.{ℕ}
use Rattle.reading.specs.Fraction.{whole}
use Rattle.levels.specs.Black.{black_of, value_of, black_at}
use Rattle.levels.proofs.black.black_at.Goals as goal

pub returns-in-Short : goal.returns-in-Short
unfolding black_at value_of
returns-in-Short c =
    rw c.in-Short.is (c.of_number.ensures ∙ ap (λ (n : ℕ). black_of (whole n)) c.value.ensures)

pub returns-in-Long : goal.returns-in-Long
unfolding black_at value_of
returns-in-Long c =
    rw c.in-Long.is (c.of_number-in-Long.ensures ∙ ap (λ (n : ℕ). black_of (whole n)) c.value-in-Long.ensures)

pub returns-in-Long8 : goal.returns-in-Long8
unfolding black_at value_of
returns-in-Long8 c =
    rw c.in-Long8.is (c.of_number-in-Long8.ensures ∙ ap (λ (n : ℕ). black_of (whole n)) c.value-in-Long8.ensures)

pub returns-in-Rational : goal.returns-in-Rational
unfolding black_at value_of
returns-in-Rational c =
    rw c.in-Rational.is (c.of_fraction.ensures ∙ ap black_of c.fraction_at.ensures.value)

pub returns-in-SignedRational : goal.returns-in-SignedRational
unfolding black_at value_of
returns-in-SignedRational c =
    rw c.in-SignedRational.is (c.of_fraction-in-SignedRational.ensures ∙ ap black_of c.fraction_at-in-SignedRational.ensures.value)
