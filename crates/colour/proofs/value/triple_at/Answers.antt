use mathlib.Core.Path.{sym, ◌∙◌}
use Rattle.reading.proofs.Reading.{run_answer}
use Rattle.directory.proofs.Outs.{bind_refused, bind_is}
use Rattle.std.proofs.lemmas.Result.{err_from_is_err_and}
use Rattle.colour.specs.Value.{triple_reading}
use Rattle.colour.proofs.value.triple_at.Goals as goal

pub returns-in_err-first : goal.returns-in_err-first
unfolding triple_reading
returns-in_err-first c =
    let p = err_from_is_err_and c.from_residual.result c.from_residual.ensures.1 in
    rw (p.1, p.2) (bind_refused _ _ _ _ _ c.in_err-first.ensures.0, tt)

pub returns-in_err-second : goal.returns-in_err-second
unfolding triple_reading
returns-in_err-second c =
    let p = err_from_is_err_and c.from_residual-in_err-second.result c.from_residual-in_err-second.ensures.1 in
    rw (p.1, p.2) (bind_refused _ _ _ _ _ c.in_err-second.ensures.0 ∙ sym (bind_is _ _ _ _ c.in_ok-first.ensures.0), tt)

pub returns-in_err-third : goal.returns-in_err-third
unfolding triple_reading
returns-in_err-third c =
    let p = err_from_is_err_and c.from_residual-in_err-third.result c.from_residual-in_err-third.ensures.1 in
    rw (p.1, p.2) (
      bind_refused _ _ _ _ _ c.in_err-third.ensures.0 ∙ sym (bind_is _ _ _ _ c.in_ok-first.ensures.0
          ∙ bind_is _ _ _ _ c.in_ok-second.ensures.0),
      tt,
    )

pub returns : goal.returns
unfolding triple_reading
returns c = (
  sym (bind_is _ _ _ _ c.in_ok-first.ensures.0 ∙ bind_is _ _ _ _ c.in_ok-second.ensures.0 ∙ bind_is _ _ _ _ c.in_ok-third.ensures.0 ∙ run_answer _ _),
  record { first = c.in_ok-first.ensures.1; second = c.in_ok-second.ensures.1; third = c.in_ok-third.ensures.1 },
)
