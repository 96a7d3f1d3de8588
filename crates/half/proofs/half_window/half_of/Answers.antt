use Rattle.std.proofs.lemmas.Result.{err_from_is_err_and}
use Rattle.half.proofs.BlockLaws.{half_not, half_uncoloured, half_unpatterned, half_is}
use Rattle.half.proofs.half_window.half_of.Goals as goal

pub returns-then-picture-ne1 : goal.returns-then-picture-ne1
returns-then-picture-ne1 c =
    half_not _ _ c.if-picture-ne1.true

pub returns-in_err-colour : goal.returns-in_err-colour
returns-in_err-colour c =
    let p = err_from_is_err_and c.from_residual.result c.from_residual.ensures.1 in
    rw (p.1, p.2) (half_uncoloured _ _ c.if-picture-ne1.false _ _ c.in_err-colour.ensures.0)

pub returns-in_err-pattern : goal.returns-in_err-pattern
returns-in_err-pattern c =
    let p = err_from_is_err_and c.from_residual-in_err-pattern.result c.from_residual-in_err-pattern.ensures.1 in
    rw (p.1, p.2) (half_unpatterned _ _ c.if-picture-ne1.false _ c.in_ok-colour.ensures.0 _ _ c.in_err-pattern.ensures)

pub returns : goal.returns
returns c =
    half_is _ _ c.if-picture-ne1.false _ c.in_ok-colour.ensures.0 _ c.in_ok-pattern.ensures
