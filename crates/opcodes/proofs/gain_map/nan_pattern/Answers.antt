use Rattle.std.proofs.Common.{sym, ◌∙◌, eq-eqb, ne_eqb}
use lib.Ieee.{nan_bits}
use Rattle.opcodes.proofs.gain_map.nan_pattern.Goals as goal

pub returns-then-exponent_field-eq2047 : goal.returns-then-exponent_field-eq2047
unfolding nan_bits
returns-then-exponent_field-eq2047 c =
    let all_ones = eq-eqb _ _ (sym c.exponent_field.ensures ∙ c.if-exponent_field-eq2047.true) in
    rw (all_ones, c.fraction_field.ensures)

pub returns-else-exponent_field-eq2047 : goal.returns-else-exponent_field-eq2047
unfolding nan_bits
returns-else-exponent_field-eq2047 c =
    let low = ne_eqb _ _ c.if-exponent_field-eq2047.false in
    low ∙ simp (rw c.exponent_field.ensures at low)
