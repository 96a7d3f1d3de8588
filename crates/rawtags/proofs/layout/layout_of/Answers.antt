use Rattle.std.proofs.Common.{rules}
use Rattle.rawtags.specs.Layout.{layout_reading}
use Rattle.rawtags.proofs.Chain.{on, off, end, exit}
use Rattle.rawtags.proofs.layout.layout_of.Goals as goal

pub returns-in_err-only_one : goal.returns-in_err-only_one
unfolding layout_reading
returns-in_err-only_one c =
    (exit _ _ _ _ c.from_residual-in_err-only_one.ensures.1 (on _ _ _ c.in_ok-bytes.ensures.0 (off _ _ _ c.in_err-only_one.ensures)), search rules)

pub returns-in_err-only_one-2 : goal.returns-in_err-only_one-2
unfolding layout_reading
returns-in_err-only_one-2 c = (
  exit _ _ _ _ c.from_residual-in_err-only_one-2.ensures.1 (on _ _ _ c.in_ok-bytes.ensures.0 (on _ _ _ c.in_ok-only_one.ensures
      (off _ _ _ c.in_err-only_one-2.ensures))),
  search rules,
)

pub returns-in_err-format : goal.returns-in_err-format
unfolding layout_reading
returns-in_err-format c = (
  exit _ _ _ _ c.from_residual-in_err-format.ensures.1 (on _ _ _ c.in_ok-bytes.ensures.0 (on _ _ _ c.in_ok-only_one.ensures
      (on _ _ _ c.in_ok-only_one-2.ensures (off _ _ _ c.in_err-format.ensures)))),
  search rules,
)

pub returns-in_err-only_one-3 : goal.returns-in_err-only_one-3
unfolding layout_reading
returns-in_err-only_one-3 c = (
  exit _ _ _ _ c.from_residual-in_err-only_one-3.ensures.1 (on _ _ _ c.in_ok-bytes.ensures.0 (on _ _ _ c.in_ok-only_one.ensures
      (on _ _ _ c.in_ok-only_one-2.ensures (on _ _ _ c.in_ok-format.ensures (off _ _ _ c.in_err-only_one-3.ensures))))),
  search rules,
)

pub returns-in_err-only_one-4 : goal.returns-in_err-only_one-4
unfolding layout_reading
returns-in_err-only_one-4 c = (
  exit _ _ _ _ c.from_residual-in_err-only_one-4.ensures.1 (on _ _ _ c.in_ok-bytes.ensures.0 (on _ _ _ c.in_ok-only_one.ensures
      (on _ _ _ c.in_ok-only_one-2.ensures (on _ _ _ c.in_ok-format.ensures (on _ _ _ c.in_ok-only_one-3.ensures
      (off _ _ _ c.in_err-only_one-4.ensures)))))),
  search rules,
)

pub returns-in_err-rows : goal.returns-in_err-rows
unfolding layout_reading
returns-in_err-rows c = (
  exit _ _ _ _ c.from_residual-in_err-rows.ensures.1 (on _ _ _ c.in_ok-bytes.ensures.0 (on _ _ _ c.in_ok-only_one.ensures
      (on _ _ _ c.in_ok-only_one-2.ensures (on _ _ _ c.in_ok-format.ensures (on _ _ _ c.in_ok-only_one-3.ensures
      (on _ _ _ c.in_ok-only_one-4.ensures (off _ _ _ c.in_err-rows.ensures.0))))))),
  search rules,
)

pub returns : goal.returns
unfolding layout_reading
returns c = (
  on _ _ _ c.in_ok-bytes.ensures.0 (on _ _ _ c.in_ok-only_one.ensures (on _ _ _ c.in_ok-only_one-2.ensures
      (on _ _ _ c.in_ok-format.ensures (on _ _ _ c.in_ok-only_one-3.ensures (on _ _ _ c.in_ok-only_one-4.ensures
      (on _ _ _ c.in_ok-rows.ensures.0 (end _ _))))))),
  search rules,
)
