use mathlib.Core.Path.{sym}
use Rattle.std.proofs.lemmas.Result.{err_from_is_err_and}
use Rattle.develop.proofs.Called.{fill_in, coloured_passed, coloured_refused}
use Rattle.develop.proofs.colour_window.coloured_in.Goals as goal

pub returns-in_err-test_window : goal.returns-in_err-test_window
returns-in_err-test_window c =
    let a = c.args in
    let w = a.window in
    let p = err_from_is_err_and c.from_residual.result c.from_residual.ensures.1 in
    λ q.
    rw (p.1, p.2)
    (coloured_refused a.file.now a.view q w.top w.left w.height w.width a.out.now a.colour c.requires.1 _ c.in_err-test_window.ensures)

pub fill_window-requires : goal.fill_window-requires
fill_window-requires c =
    let a = c.args in
    let w = a.window in
    fill_in a.file.now a.view c.requires.0 w.top w.left w.height w.width a.out.now 3 (sym c.requires.1) c.in_ok-test_window.ensures

pub returns : goal.returns
unfolding fill_in
returns c =
    let a = c.args in
    let w = a.window in
    let passed = c.in_ok-test_window.ensures in
    λ q.
    let inside = fill_in a.file.now a.view q w.top w.left w.height w.width a.out.now 3 (sym c.requires.1) passed in
    coloured_passed a.file.now a.view q w.top w.left w.height w.width a.out.now a.colour c.requires.1 _ _ passed
    (c.fill_window.ensures inside) c.colour_pass.ensures
