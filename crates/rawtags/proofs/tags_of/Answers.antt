use Rattle.std.proofs.Common.{rules}
use Rattle.rawtags.specs.Raw.{tags_reading}
use Rattle.rawtags.proofs.Chain.{on, off, end, exit}
use Rattle.rawtags.proofs.tags_of.Goals as goal

pub returns-in_err-layout : goal.returns-in_err-layout
unfolding tags_reading
returns-in_err-layout c =
    (exit _ _ _ _ c.from_residual-in_err-layout.ensures.1 (on _ _ _ c.in_ok-frame.ensures.0 (off _ _ _ c.in_err-layout.ensures.0)), search rules)

pub returns-in_err-strips : goal.returns-in_err-strips
unfolding tags_reading
returns-in_err-strips c = (
  exit _ _ _ _ c.from_residual-in_err-strips.ensures.1 (on _ _ _ c.in_ok-frame.ensures.0 (on _ _ _ c.in_ok-layout.ensures.0
      (off _ _ _ c.in_err-strips.ensures.result_value))),
  search rules,
)

pub returns-in_err-area : goal.returns-in_err-area
unfolding tags_reading
returns-in_err-area c = (
  exit _ _ _ _ c.from_residual-in_err-area.ensures.1 (on _ _ _ c.in_ok-frame.ensures.0 (on _ _ _ c.in_ok-layout.ensures.0
      (on _ _ _ c.in_ok-strips.ensures.result_value (off _ _ _ c.in_err-area.ensures.0)))),
  search rules,
)

pub returns-in_err-levels : goal.returns-in_err-levels
unfolding tags_reading
returns-in_err-levels c = (
  exit _ _ _ _ c.from_residual-in_err-levels.ensures.1 (on _ _ _ c.in_ok-frame.ensures.0 (on _ _ _ c.in_ok-layout.ensures.0
      (on _ _ _ c.in_ok-strips.ensures.result_value (on _ _ _ c.in_ok-area.ensures.0
      (off _ _ _ c.in_err-levels.ensures.result_value))))),
  search rules,
)

pub returns-in_err-crop : goal.returns-in_err-crop
unfolding tags_reading
returns-in_err-crop c = (
  exit _ _ _ _ c.from_residual-in_err-crop.ensures.1 (on _ _ _ c.in_ok-frame.ensures.0 (on _ _ _ c.in_ok-layout.ensures.0
      (on _ _ _ c.in_ok-strips.ensures.result_value (on _ _ _ c.in_ok-area.ensures.0 (on _ _ _ c.in_ok-levels.ensures.result_value
      (off _ _ _ c.in_err-crop.ensures.0)))))),
  search rules,
)

pub returns-in_err-list : goal.returns-in_err-list
unfolding tags_reading
returns-in_err-list c = (
  exit _ _ _ _ c.from_residual-in_err-list.ensures.1 (on _ _ _ c.in_ok-frame.ensures.0 (on _ _ _ c.in_ok-layout.ensures.0
      (on _ _ _ c.in_ok-strips.ensures.result_value (on _ _ _ c.in_ok-area.ensures.0 (on _ _ _ c.in_ok-levels.ensures.result_value
      (on _ _ _ c.in_ok-crop.ensures.0 (off _ _ _ c.in_err-list.ensures.0))))))),
  search rules,
)

pub returns : goal.returns
unfolding tags_reading
returns c = (
  on _ _ _ c.in_ok-frame.ensures.0 (on _ _ _ c.in_ok-layout.ensures.0 (on _ _ _ c.in_ok-strips.ensures.result_value
      (on _ _ _ c.in_ok-area.ensures.0 (on _ _ _ c.in_ok-levels.ensures.result_value (on _ _ _ c.in_ok-crop.ensures.0
      (on _ _ _ c.in_ok-list.ensures.0 (end _ _))))))),
  search rules,
)
