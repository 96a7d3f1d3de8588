use mathlib.Core.Path.{sym, ◌∙◌}
use Rattle.std.proofs.lemmas.Result.{err_from_is_err_and}
use Rattle.reading.proofs.Reading.{run_answer}
use Rattle.directory.specs.Tag.{all_reading}
use Rattle.directory.proofs.Outs.{bind_refused, bind_is}
use Rattle.directory.proofs.tag.all.Goals as goal

pub returns-in_err-each : goal.returns-in_err-each
unfolding all_reading
returns-in_err-each c =
    let p = err_from_is_err_and c.from_residual-in_err-each.result c.from_residual-in_err-each.ensures.1 in
    rw (p.1, p.2) (bind_refused _ _ _ _ _ c.in_err-each.ensures ∙ sym (bind_is _ _ _ _ c.in_ok-v.ensures.0), tt)

pub returns : goal.returns
unfolding all_reading
returns c =
    (sym (bind_is _ _ _ _ c.in_ok-v.ensures.0 ∙ bind_is _ _ _ _ c.in_ok-each.ensures ∙ run_answer _ _), c.in_ok-v.ensures.1)
