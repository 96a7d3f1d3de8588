use Rattle.rawtags.specs.LevelTags.{level_tags_reading}
use Rattle.rawtags.proofs.Chain.{on, off, end, exit}
use Rattle.rawtags.proofs.level_tags.level_tags_of.Goals as goal

pub returns-in_err-repeat-clause-result_value : goal.returns-in_err-repeat-clause-result_value
unfolding level_tags_reading
returns-in_err-repeat-clause-result_value c =
    exit _ _ _ _ c.from_residual-in_err-repeat.ensures.1 (on _ _ _ c.in_ok-table.ensures.0 (off _ _ _ c.in_err-repeat.ensures.0))

pub returns-in_err-black-clause-result_value : goal.returns-in_err-black-clause-result_value
unfolding level_tags_reading
returns-in_err-black-clause-result_value c =
    exit _ _ _ _ c.from_residual-in_err-black.ensures.1 (on _ _ _ c.in_ok-table.ensures.0 (on _ _ _ c.in_ok-repeat.ensures.0
    (off _ _ _ c.in_err-black.ensures.result_value)))

pub returns-in_err-column_deltas-clause-result_value : goal.returns-in_err-column_deltas-clause-result_value
unfolding level_tags_reading
returns-in_err-column_deltas-clause-result_value c =
    exit _ _ _ _ c.from_residual-in_err-column_deltas.ensures.1 (on _ _ _ c.in_ok-table.ensures.0 (on _ _ _ c.in_ok-repeat.ensures.0
    (on _ _ _ c.in_ok-black.ensures.result_value (off _ _ _ c.in_err-column_deltas.ensures.result_value))))

pub returns-in_err-row_deltas-clause-result_value : goal.returns-in_err-row_deltas-clause-result_value
unfolding level_tags_reading
returns-in_err-row_deltas-clause-result_value c =
    exit _ _ _ _ c.from_residual-in_err-row_deltas.ensures.1 (on _ _ _ c.in_ok-table.ensures.0 (on _ _ _ c.in_ok-repeat.ensures.0
    (on _ _ _ c.in_ok-black.ensures.result_value (on _ _ _ c.in_ok-column_deltas.ensures.result_value
    (off _ _ _ c.in_err-row_deltas.ensures.result_value)))))

pub returns-in_err-white-clause-result_value : goal.returns-in_err-white-clause-result_value
unfolding level_tags_reading
returns-in_err-white-clause-result_value c =
    exit _ _ _ _ c.from_residual-in_err-white.ensures.1 (on _ _ _ c.in_ok-table.ensures.0 (on _ _ _ c.in_ok-repeat.ensures.0
    (on _ _ _ c.in_ok-black.ensures.result_value (on _ _ _ c.in_ok-column_deltas.ensures.result_value
    (on _ _ _ c.in_ok-row_deltas.ensures.result_value (off _ _ _ c.in_err-white.ensures.0))))))

pub returns-clause-result_value : goal.returns-clause-result_value
unfolding level_tags_reading
returns-clause-result_value c =
    on _ _ _ c.in_ok-table.ensures.0 (on _ _ _ c.in_ok-repeat.ensures.0 (on _ _ _ c.in_ok-black.ensures.result_value
    (on _ _ _ c.in_ok-column_deltas.ensures.result_value (on _ _ _ c.in_ok-row_deltas.ensures.result_value
    (on _ _ _ c.in_ok-white.ensures.0 (end _ _))))))
