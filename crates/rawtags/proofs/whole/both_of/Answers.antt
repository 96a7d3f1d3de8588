use borrow.Author.Tests.{ne_eqb}
use Rattle.reading.proofs.Reading.{pick_no}
use Rattle.rawtags.specs.Whole.{both_reading}
use Rattle.rawtags.proofs.Chain.{on, off, end, exit}
use Rattle.rawtags.proofs.whole.both_of.Goals as goal

pub returns-in_err-horizontal : goal.returns-in_err-horizontal
unfolding both_reading
returns-in_err-horizontal c =
    exit _ _ _ _ c.from_residual.ensures.1 (rw (ne_eqb _ _ c.if-v-eq0.false, pick_no) (off _ _ _ c.in_err-horizontal.ensures))

pub returns-in_err-vertical : goal.returns-in_err-vertical
unfolding both_reading
returns-in_err-vertical c =
    exit _ _ _ _ c.from_residual-in_err-vertical.ensures.1 (rw (ne_eqb _ _ c.if-v-eq0.false, pick_no) (on _ _ _ c.in_ok-horizontal.ensures
    (off _ _ _ c.in_err-vertical.ensures)))

pub returns : goal.returns
unfolding both_reading
returns c =
    rw (ne_eqb _ _ c.if-v-eq0.false, pick_no) (on _ _ _ c.in_ok-horizontal.ensures (on _ _ _ c.in_ok-vertical.ensures (end _ _)))
