use borrow.Author.Tests.{eq-eqb, ne_eqb}
use lib.Ieee.{binary32}
use Rattle.reading.proofs.Pattern.{is_refused, is_value, no_nan_pattern}
use Rattle.reading.proofs.real.float_at.Goals as goal

pub returns-then-n-eq255 : goal.returns-then-n-eq255
returns-then-n-eq255 c =
    rw (← c.long-bits.ensures) (is_refused binary32 _ (eq-eqb _ _ c.if-n-eq255.true))

pub float_from_bits-x : goal.float_from_bits-x
float_from_bits-x c =
    no_nan_pattern binary32 _ (ne_eqb _ _ c.if-n-eq255.false)

pub returns : goal.returns
returns c =
    rw (← c.long-bits.ensures) (is_value binary32 _ (ne_eqb _ _ c.if-n-eq255.false))
