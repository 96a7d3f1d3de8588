use Rattle.std.proofs.lemmas.Result.{err_from_is_err_and}
use Rattle.develop.proofs.Views.{front_refused, list_refused, list_viewed}
use Rattle.develop.proofs.open.Goals as goal

pub returns-in_err-picture : goal.returns-in_err-picture
returns-in_err-picture c =
    let p = err_from_is_err_and c.from_residual.result c.from_residual.ensures.1 in
    rw (p.1, p.2) (front_refused _ _ _ c.in_err-picture.ensures.0)

pub returns-in_err-counts : goal.returns-in_err-counts
returns-in_err-counts c =
    let p = err_from_is_err_and c.from_residual-in_err-counts.result c.from_residual-in_err-counts.ensures.1 in
    rw (p.1, p.2) (list_refused c.args.file.now _ c.in_ok-picture.ensures.0 _ _ c.in_err-counts.ensures)

pub returns : goal.returns
returns c =
    let front = c.in_ok-picture.ensures in
    list_viewed c.args.file.now _ front.0 _ _ c.size_of.ensures front.1 c.in_ok-counts.ensures
