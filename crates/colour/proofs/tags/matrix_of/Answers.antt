use mathlib.Core.Path.{sym, ◌∙◌}
use Rattle.reading.proofs.Reading.{run_answer}
use Rattle.directory.proofs.Outs.{bind_refused, bind_is}
use Rattle.std.proofs.lemmas.Result.{err_from_is_err_and}
use Rattle.colour.specs.Tags.{matrix_reading}
use Rattle.colour.proofs.tags.matrix_of.Goals as goal

pub returns-in_err-v : goal.returns-in_err-v
unfolding matrix_reading
returns-in_err-v c =
    let p = err_from_is_err_and c.from_residual.result c.from_residual.ensures.1 in
    rw (p.1, p.2) (bind_refused _ _ _ _ _ (rw c.required-rule.ensures at c.in_err-v.ensures.0), tt)

pub returns-in_err-x : goal.returns-in_err-x
unfolding matrix_reading
returns-in_err-x c =
    let p = err_from_is_err_and c.from_residual-in_err-x.result c.from_residual-in_err-x.ensures.1 in
    rw (p.1, p.2) (bind_refused _ _ _ _ _ c.in_err-x.ensures.0 ∙ sym (bind_is _ _ _ _ (rw c.required-rule.ensures at c.in_ok-v.ensures.0)), tt)

pub returns-in_err-y : goal.returns-in_err-y
unfolding matrix_reading
returns-in_err-y c =
    let p = err_from_is_err_and c.from_residual-in_err-y.result c.from_residual-in_err-y.ensures.1 in
    rw (p.1, p.2) (
      bind_refused _ _ _ _ _ c.in_err-y.ensures.0 ∙ sym (bind_is _ _ _ _ (rw c.required-rule.ensures at c.in_ok-v.ensures.0)
          ∙ bind_is _ _ _ _ c.in_ok-x.ensures.0),
      tt,
    )

pub returns-in_err-z : goal.returns-in_err-z
unfolding matrix_reading
returns-in_err-z c =
    let p = err_from_is_err_and c.from_residual-in_err-z.result c.from_residual-in_err-z.ensures.1 in
    rw (p.1, p.2) (
      bind_refused _ _ _ _ _ c.in_err-z.ensures.0 ∙ sym (bind_is _ _ _ _ (rw c.required-rule.ensures at c.in_ok-v.ensures.0)
          ∙ bind_is _ _ _ _ c.in_ok-x.ensures.0 ∙ bind_is _ _ _ _ c.in_ok-y.ensures.0),
      tt,
    )

pub returns : goal.returns
unfolding matrix_reading
returns c = (
  sym (bind_is _ _ _ _ (rw c.required-rule.ensures at c.in_ok-v.ensures.0) ∙ bind_is _ _ _ _ c.in_ok-x.ensures.0
      ∙ bind_is _ _ _ _ c.in_ok-y.ensures.0 ∙ bind_is _ _ _ _ c.in_ok-z.ensures.0
      ∙ run_answer _ _),
  record { x = c.in_ok-x.ensures.1; y = c.in_ok-y.ensures.1; z = c.in_ok-z.ensures.1 },
)
