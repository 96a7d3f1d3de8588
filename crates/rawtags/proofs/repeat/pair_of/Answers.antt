use Rattle.std.proofs.Common.{rules}
use borrow.Author.Tests.{ne_eqb}
use Rattle.reading.proofs.Reading.{pick_no}
use Rattle.rawtags.specs.Repeat.{pair_reading}
use Rattle.rawtags.proofs.Chain.{on, off, end, exit}
use Rattle.rawtags.proofs.repeat.pair_of.Goals as goal

pub returns-in_err-rows : goal.returns-in_err-rows
unfolding pair_reading
returns-in_err-rows c =
    (exit _ _ _ _ c.from_residual.ensures.1 (rw (ne_eqb _ _ c.if-v-eq0.false, pick_no) (off _ _ _ c.in_err-rows.ensures.0)), search rules)

pub returns-in_err-columns : goal.returns-in_err-columns
unfolding pair_reading
returns-in_err-columns c = (
  exit _ _ _ _ c.from_residual-in_err-columns.ensures.1 (rw (ne_eqb _ _ c.if-v-eq0.false, pick_no) (on _ _ _ c.in_ok-rows.ensures.0
      (off _ _ _ c.in_err-columns.ensures.0))),
  search rules,
)

pub returns : goal.returns
unfolding pair_reading
returns c =
    (rw (ne_eqb _ _ c.if-v-eq0.false, pick_no) (on _ _ _ c.in_ok-rows.ensures.0 (on _ _ _ c.in_ok-columns.ensures.0 (end _ _))), search rules)
