use mathlib.Core.Path.{sym, ◌∙◌}
use Rattle.reading.proofs.Reading.{run_answer}
use Rattle.directory.proofs.Outs.{bind_refused, bind_is}
use Rattle.std.proofs.lemmas.Result.{err_from_is_err_and}
use Rattle.raw.specs.Front.{front_reading}
use Rattle.raw.proofs.front.open.Goals as goal

pub returns-in_err-roots : goal.returns-in_err-roots
unfolding front_reading
returns-in_err-roots c =
    let p = err_from_is_err_and c.from_residual.result c.from_residual.ensures.1 in
    rw (p.1, p.2) (bind_refused _ _ _ _ _ c.in_err-roots.ensures.0, tt)

pub returns-in_err-raw : goal.returns-in_err-raw
unfolding front_reading
returns-in_err-raw c =
    let p = err_from_is_err_and c.from_residual-in_err-raw.result c.from_residual-in_err-raw.ensures.1 in
    rw (p.1, p.2) (bind_refused _ _ _ _ _ c.in_err-raw.ensures.0 ∙ sym (bind_is _ _ _ _ c.in_ok-roots.ensures.0), tt)

pub returns : goal.returns
unfolding front_reading
returns c =
    let roots = c.in_ok-roots.ensures in
    let raw = c.in_ok-raw.ensures in (
      sym (bind_is _ _ _ _ roots.0 ∙ bind_is _ _ _ _ raw.0 ∙ run_answer _ _),
      record { size = roots.1.size; first = roots.1.first; directory = roots.1.raw; raw = raw.1 },
    )
