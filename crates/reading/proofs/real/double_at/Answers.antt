use mathlib.Core.Path.{◌≡◌, sym, ◌∙◌}
use mathlib.Core.Bool.{false}
use borrow.Author.Tests.{eq-eqb, ne_eqb}
use lib.Ieee.{binary64}
use Rattle.reading.specs.Real.{refused_pattern}
use Rattle.reading.proofs.Pattern.{is_refused, is_value, no_nan_pattern}
use Rattle.reading.proofs.real.double_at.Goals as goal

pub returns-then-exponent_field-eq2047 : goal.returns-then-exponent_field-eq2047
returns-then-exponent_field-eq2047 c =
    let all_ones = sym c.exponent_field.ensures ∙ c.if-exponent_field-eq2047.true in
    rw (← c.eight-n.ensures) (is_refused binary64 _ (eq-eqb _ _ all_ones))

pub float_from_bits-result : goal.float_from_bits-result
float_from_bits-result c =
    no_nan_pattern binary64 _ (ne_eqb _ _ (λ e. c.if-exponent_field-eq2047.false (c.exponent_field.ensures ∙ e)))

pub returns : goal.returns
returns c =
    let n = c.eight-n in
    let kept : refused_pattern binary64 n.result ≡ false = ne_eqb _ _ (λ e. c.if-exponent_field-eq2047.false (c.exponent_field.ensures ∙ e)) in
    rw (← n.ensures) (is_value binary64 _ kept)
