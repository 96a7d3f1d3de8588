use mathlib.Core.Path.{◌∙◌}
use Rattle.std.proofs.lemmas.Result.{err_from_is_err_and}
use Rattle.develop.proofs.Called.{colour_tags, colour_mosaic}
use Rattle.develop.proofs.colour_window.colour_window_in.Goals as goal

pub returns-in_err-colour : goal.returns-in_err-colour
returns-in_err-colour c =
    let a = c.args in
    let w = a.window in
    let p = err_from_is_err_and c.from_residual.result c.from_residual.ensures.1 in
    rw (p.1, p.2)
    (colour_tags a.file.now a.view c.requires w.top w.left w.height w.width a.out.now c.if-view-ne3.false _ c.in_err-colour.ensures.0)

pub returns-then-view-ne3 : goal.returns-then-view-ne3
returns-then-view-ne3 c =
    let a = c.args in
    let w = a.window in
    colour_mosaic a.file.now a.view c.requires w.top w.left w.height w.width a.out.now c.if-view-ne3.true

pub returns : goal.returns
returns c =
    let a = c.args in
    let w = a.window in
    c.coloured_in.ensures c.requires
    ∙ colour_tags a.file.now a.view c.requires w.top w.left w.height w.width a.out.now c.if-view-ne3.false _ c.in_ok-colour.ensures.0
